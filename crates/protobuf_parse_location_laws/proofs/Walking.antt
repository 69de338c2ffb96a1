-- Which paths walks find, whatever tokens lie ahead of them.
use Rattle.std.proofs.Common.{◌≡◌, Bool, true, false, List, [], ◌∷◌, ◌++◌}
use Rattle.std.proofs.Common.{Option, refl}
use Rattle.std.specs.Prelude.{if◌then◌else◌}
use Rattle.std.specs.List.{AllByRecursion}
use Rattle.protobuf_parse_lexer.specs.Text.{Bytes}
use Rattle.protobuf_parse_syntax.specs.Trees.{OptionNameSyntax}
use Rattle.protobuf_parse_source_info.specs.Parts.{at}
use Rattle.protobuf_parse_source_info.specs.Walks.{Ahead, Located, Mark, Path, Range, Walk, again}
use Rattle.protobuf_parse_source_info.specs.Walks.{declared, declared_from, if_next, located}
use Rattle.protobuf_parse_source_info.specs.Walks.{noting, part, seeing, sees, ◌>>◌}
use Rattle.protobuf_parse_locations.specs.Declarations.{DeclarationAt}

-- A location of that path is among these.
pub data Has (p : Path) : List Located → Type 0 where
  here : {l : Located} {ls : List Located} → l.path ≡ p → Has p (l ∷ ls)
  later : {l : Located} {ls : List Located} → Has p ls → Has p (l ∷ ls)

has_before : {p : Path} {ls : List Located} (ms : List Located) → Has p ls → Has p (ls ++ ms)
has_before ms (here e) = here e
has_before ms (later h) = later (has_before ms h)

has_behind : {p : Path} (ls : List Located) {ms : List Located} → Has p ms → Has p (ls ++ ms)
has_behind [] h = h
has_behind (l ∷ ls) h = later (has_behind ls h)

-- A walk finds a location of that path.
pub record Finds (p : Path) (w : Walk) : Type 0 where
  pub found : (a : Ahead) → Has p (w a).found

-- ---- one walk after another

pub in_first : {p : Path} (v w : Walk) → Finds p v → Finds p (v >> w)
unfolding ◌>>◌
in_first v w f = record { found = λ a. has_before (w (v a).left).found (f.found a) }

pub in_second : {p : Path} (v w : Walk) → Finds p w → Finds p (v >> w)
unfolding ◌>>◌
in_second v w f = record { found = λ a. has_behind (v a).found (f.found (v a).left) }

pub in_either : {p : Path} (t : Bytes) (v w : Walk) → Finds p v → Finds p w
    → Finds p (if_next t v w)
unfolding if_next
in_either {p} t v w f g = record { found = λ a. one_of a (sees t a) }
  where
    one_of : (a : Ahead) (b : Bool) → Has p (if b then v a else w a).found
    one_of a true = f.found a
    one_of a false = g.found a

pub in_seeing : {p : Path} (w : Ahead → Walk) → ((a : Ahead) → Finds p (w a)) → Finds p (seeing w)
unfolding seeing
in_seeing w f = record { found = λ a. (f a).found a }

pub in_noted : {p : Path} (v : Walk) (w : Range → Walk) → Finds p v → Finds p (noting v w)
unfolding noting ◌>>◌
in_noted v w f = record { found = λ a. has_before _ (f.found a) }

pub in_noting : {p : Path} (v : Walk) (w : Range → Walk) → ((r : Range) → Finds p (w r))
    → Finds p (noting v w)
unfolding noting ◌>>◌
in_noting v w f = record { found = λ a. has_behind (v a).found ((f _).found (v a).left) }

-- ---- locations

pub of_part : (p : Path) (w : Walk) → Finds p (part p w)
unfolding located
of_part p w = record { found = λ a. here refl }

pub in_part : {p : Path} (q : Path) (w : Walk) → Finds p w → Finds p (part q w)
unfolding located
in_part q w f = record { found = λ a. later (f.found a) }

pub of_again : (p : Path) (r : Range) → Finds p (again p r)
unfolding again
of_again p r = record { found = λ a. here refl }

pub of_declared_from : (m : Mark) (p : Path) (o : Option OptionNameSyntax) (h b : Walk)
    → Finds p (declared_from m p o h b)
unfolding declared_from
of_declared_from m p o h b = record { found = λ a. here refl }

pub in_declared_from : {p : Path} (m : Mark) (q : Path) (o : Option OptionNameSyntax) (h b : Walk)
    → Finds p (h >> b) → Finds p (declared_from m q o h b)
unfolding declared_from
in_declared_from m q o h b f = record { found = λ a. later (f.found a) }

pub of_declared : (p : Path) (h b : Walk) → Finds p (declared p h b)
unfolding declared declared_from
of_declared p h b = record { found = λ a. here refl }

pub in_declared : {p : Path} (q : Path) (h b : Walk) → Finds p (h >> b) → Finds p (declared q h b)
unfolding declared declared_from
in_declared q h b f = record { found = λ a. later (f.found a) }

-- ---- declarations

-- A walk finds the location of a declaration of that path, and that of its name.
pub record Tells (p : Path) (w : Walk) : Type 0 where
  pub itself : Finds p w
  pub name : Finds (at p 1) w

-- It does of all these.
pub record TellsAll (ds : List DeclarationAt) (w : Walk) : Type 0 where
  pub each : AllByRecursion (λ (d : DeclarationAt). Tells d.path w) ds

-- What the one finds, the other finds.
pub record Within (v w : Walk) : Type 0 where
  pub finds : (p : Path) → Finds p v → Finds p w

each_within : (v w : Walk) → Within v w → (ds : List DeclarationAt)
    → AllByRecursion (λ (d : DeclarationAt). Tells d.path v) ds
    → AllByRecursion (λ (d : DeclarationAt). Tells d.path w) ds
each_within v w i [] t = tt
each_within v w i (d ∷ ds) t = (
  record { itself = i.finds d.path t.0.itself; name = i.finds (at d.path 1) t.0.name },
  each_within v w i ds t.1,
)

pub all_within : {v w : Walk} {ds : List DeclarationAt} → Within v w → TellsAll ds v
    → TellsAll ds w
all_within {v} {w} {ds} i t = record { each = each_within v w i ds t.each }

each_of_both : (w : Walk) (ds es : List DeclarationAt)
    → AllByRecursion (λ (d : DeclarationAt). Tells d.path w) ds
    → AllByRecursion (λ (d : DeclarationAt). Tells d.path w) es
    → AllByRecursion (λ (d : DeclarationAt). Tells d.path w) (ds ++ es)
each_of_both w [] es s t = t
each_of_both w (d ∷ ds) es s t = (s.0, each_of_both w ds es s.1 t)

pub both : {w : Walk} {ds es : List DeclarationAt} → TellsAll ds w → TellsAll es w
    → TellsAll (ds ++ es) w
both {w} {ds} {es} s t = record { each = each_of_both w ds es s.each t.each }

pub one_more : {w : Walk} {d : DeclarationAt} {ds : List DeclarationAt} → Tells d.path w
    → TellsAll ds w → TellsAll (d ∷ ds) w
one_more s t = record { each = (s, t.each) }

pub none_told : (w : Walk) → TellsAll [] w
none_told w = record { each = tt }

seeing_each : (w : Ahead → Walk) (ds : List DeclarationAt)
    → ((a : Ahead) → AllByRecursion (λ (d : DeclarationAt). Tells d.path (w a)) ds)
    → AllByRecursion (λ (d : DeclarationAt). Tells d.path (seeing w)) ds
seeing_each w [] t = tt
seeing_each w (d ∷ ds) t = (
  record {
    itself = in_seeing w (λ a. (t a).0.itself);
    name = in_seeing w (λ a. (t a).0.name);
  },
  seeing_each w ds (λ a. (t a).1),
)

pub all_seeing : {ds : List DeclarationAt} (w : Ahead → Walk) → ((a : Ahead) → TellsAll ds (w a))
    → TellsAll ds (seeing w)
all_seeing {ds} w t = record { each = seeing_each w ds (λ a. (t a).each) }

pub all_unless : (b : Bool) (ds : List DeclarationAt) (w : Walk) → TellsAll ds w
    → TellsAll (if b then [] else ds) w
all_unless true ds w t = none_told w
all_unless false ds w t = t

-- ---- inside other walks

pub first_within : (v w : Walk) → Within v (v >> w)
first_within v w = record { finds = λ p f. in_first v w f }

pub second_within : (v w : Walk) → Within w (v >> w)
second_within v w = record { finds = λ p f. in_second v w f }

pub within_within : {u v w : Walk} → Within u v → Within v w → Within u w
within_within i j = record { finds = λ p f. j.finds p (i.finds p f) }

pub body_within : (q : Path) (h b e : Walk) → Within b (declared q h (b >> e))
body_within q h b e =
    record { finds = λ p f. in_declared q h (b >> e) (in_second h (b >> e) (in_first b e f)) }
