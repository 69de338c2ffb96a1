-- What tells the first wrong of a part tells the first of the whole.
use Rattle.std.proofs.Common.{◌≡◌, ℕ, zero, suc, ◌<◌, ◌≤◌, List, [], ◌∷◌, ◌++◌, map, flat_map}
use Rattle.std.proofs.Common.{length, arith, ap, sym, ◌∙◌, ◌+◌, take, refl, length-append}
use Rattle.std.proofs.Common.{append_assoc, append-nil, Result, Err}
use Rattle.std.proofs.lemmas.Grind.{flat_map-append}
use Rattle.std.proofs.lemmas.List.{length-map, map-append, take_more}
use Rattle.std.specs.Prelude.{slice_index_or}
use Rattle.protobuf_parse_model.specs.declared.error.ElabErrorKind.{ElabErrorKind}
use Rattle.protobuf_parse_model.specs.Duplicates.{fault}
use Rattle.protobuf_parse_lexer.specs.declared.lexer.token.Place.{Place}
use Rattle.protobuf_parse_model.specs.Faults.{Wrong, Fault, fault_view, placed}
use Rattle.protobuf_parse_model.specs.declared.error.ElabError.{ElabError}
use Rattle.protobuf_parse_options.specs.declared.refuse.OptionFailure.{OptionFailure}
use Rattle.protobuf_parse_options.specs.declared.refuse.OptionFailure.TheVariants as failure
use Rattle.protobuf_parse_options.specs.CustomFaults.{first_of}
use Rattle.protobuf_parse_options.specs.OptionBytes.{bytes_unless}
use Rattle.protobuf_parse_options.specs.declared.refuse.OptionError.{OptionError}
use Rattle.protobuf_parse_options.specs.Refusals.{Gives, IsFirst, Refuses, wrong_view}

pub refuses_left : (e : OptionFailure) (xs ys : List Wrong) → Refuses e xs → Refuses e (xs ++ ys)
refuses_left failure.Memory xs ys h = tt
refuses_left (failure.Wrong e) [] ys h = absurd h
refuses_left (failure.Wrong e) (x ∷ xs) ys h = h

pub refuses_right : (e : OptionFailure) (xs ys : List Wrong) → xs ≡ [] → Refuses e ys
    → Refuses e (xs ++ ys)
refuses_right e [] ys none h = h
refuses_right e (x ∷ xs) ys none h = absurd cc

-- what tells the first wrong of one element, where none before it has one, tells the first of all
pub refuses_at : {S X : Type 0} (wrongs : X → List Wrong) (view : S → X) (xs : List S) (i : ℕ)
    (s : S) (e : OptionFailure) → i < length xs → s ≡ slice_index_or xs i s
    → flat_map wrongs (map view (take i xs)) ≡ [] → Refuses e (wrongs (view s))
    → Refuses e (flat_map wrongs (map view xs))
refuses_at wrongs view [] i s e lt is none h = absurd (omega arith)
refuses_at wrongs view (x ∷ xs) zero s e lt is none h =
    refuses_left e (wrongs (view x)) _ (rw is at h)
refuses_at wrongs view (x ∷ xs) (suc i) s e lt is none h =
    refuses_right e (wrongs (view x)) _ (none_first (wrongs (view x)) _ none)
    (refuses_at wrongs view xs i s e (omega arith) is (none_later (wrongs (view x)) _ none) h)
  where
    none_first : (ys zs : List Wrong) → ys ++ zs ≡ [] → ys ≡ []
    none_first [] zs e = refl
    none_first (y ∷ ys) zs e = absurd cc

    none_later : (ys zs : List Wrong) → ys ++ zs ≡ [] → zs ≡ []
    none_later [] zs e = e
    none_later (y ∷ ys) zs e = absurd cc

-- what is wrong, by its kind and its text
pub first_wrong : (kind : ElabErrorKind) (what text : List ℕ) → text ≡ what
    → IsFirst (fault kind what) (record { kind = kind; what = text })
first_wrong kind what text e = rw e refl

-- where nothing is told of an option nothing is wrong in it, and nothing is told where nothing is
pub none_wrong : (place : Place) (ws : List Wrong) → placed place (first_of ws) ≡ [] → ws ≡ []
none_wrong place [] e = refl
none_wrong place (w ∷ ws) e = absurd cc

pub none_placed : (place : Place) (ws : List Wrong) → ws ≡ [] → placed place (first_of ws) ≡ []
none_placed place ws e = rw e refl

-- the first wrong is told
pub first_told : (place : Place) (ws : List Wrong) (w : Wrong) → IsFirst ws w
    → record { place = place; wrong = w } ∷ [] ≡ placed place (first_of ws)
first_told place [] w h = absurd h
first_told place (x ∷ ws) w h = rw h refl

-- the list of what was told, where an option's first wrong was added
pub told_first : (olds news : List ElabError) (e : OptionError) (place : Place) (ws : List Wrong)
    → news ≡ olds ++ record { place = place; kind = e.kind; what = e.what } ∷ []
    → IsFirst ws (wrong_view e)
    → map fault_view news ≡ map fault_view olds ++ placed place (first_of ws)
told_first olds news e place ws more first =
    ap (map fault_view) more ∙ map-append fault_view olds _
    ∙ ap (λ fs. map fault_view olds ++ fs) (first_told place ws (wrong_view e) first)

pub untold : (place : Place) (ws : List Wrong) (w : Wrong) → IsFirst ws w
    → placed place (first_of ws) ≡ [] → ⊥
untold place [] w h none = h
untold place (x ∷ ws) w h none = absurd cc

-- a failure that tells something tells the first
pub gave_first : {X Y : Type 0} (view : X → Y) (r : Result X OptionFailure) (ws : List Wrong)
    (value : Y) (e : OptionError) → Gives view r ws value → r ≡ Err (failure.Wrong e)
    → IsFirst ws (wrong_view e)
gave_first view r ws value e h is = rw is at h

-- bytes where no fault stands
pub unless_none : (fs : List Fault) (bytes : List ℕ) → fs ≡ [] → bytes_unless fs bytes ≡ bytes
unless_none fs bytes e = rw e refl

pub unless_empty : (fs : List Fault) (bytes : List ℕ) → bytes ≡ [] → bytes_unless fs bytes ≡ []
unless_empty [] bytes e = e
unless_empty (f ∷ fs) bytes e = refl

-- ---- how many faults were told

length_told : (olds news : List ElabError) (fs : List Fault)
    → map fault_view news ≡ map fault_view olds ++ fs → length news ≡ length olds + length fs
length_told olds news fs told =
    sym (length-map news fault_view) ∙ ap length told ∙ length-append (map fault_view olds) fs
    ∙ ap (λ n. n + length fs) (length-map olds fault_view)

pub none_more : (olds news : List ElabError) (fs : List Fault) (old new : ℕ)
    → map fault_view news ≡ map fault_view olds ++ fs → old ≡ length olds → new ≡ length news
    → new ≤ old → fs ≡ []
none_more olds news [] old new told is_old is_new same = refl
none_more olds news (f ∷ fs) old new told is_old is_new same =
    let n = length_told olds news (f ∷ fs) told in absurd (omega (arith, n, is_old, is_new, same))

-- ---- one element more

pub seen_more : {S X : Type 0} (view : S → X) (xs : List S) (i : ℕ) (s : S) → i < length xs
    → s ≡ slice_index_or xs i s → map view (take (i + 1) xs) ≡ map view (take i xs) ++ view s ∷ []
seen_more view xs i s lt is =
    ap (map view) (take_more xs i s lt)
    ∙ map-append view (take i xs) _
    ∙ ap (λ z. map view (take i xs) ++ view z ∷ []) (sym is)

flat_more : {X Y : Type 0} (f : X → List Y) (before : List X) (x : X) (after : List X)
    → after ≡ before ++ x ∷ [] → flat_map f after ≡ flat_map f before ++ f x
flat_more f before x after more =
    ap (flat_map f) more ∙ flat_map-append f before (x ∷ [])
    ∙ ap (λ ys. flat_map f before ++ ys) (append-nil (f x))

pub told_more : {X : Type 0} (faults : X → List Fault) (f0 f1 f2 : List Fault)
    (before : List X) (x : X) (after : List X) → after ≡ before ++ x ∷ []
    → f1 ≡ f0 ++ flat_map faults before → f2 ≡ f1 ++ faults x → f2 ≡ f0 ++ flat_map faults after
told_more faults f0 f1 f2 before x after more first next =
    next ∙ ap (λ fs. fs ++ faults x) first
    ∙ append_assoc f0 (flat_map faults before) (faults x)
    ∙ ap (λ fs. f0 ++ fs) (sym (flat_more faults before x after more))

-- where nothing is told of it either
pub bytes_more : {X : Type 0} (faults : X → List Fault) (bytes : X → List ℕ) (b0 b1 b2 : List ℕ)
    (before : List X) (x : X) (after : List X) → after ≡ before ++ x ∷ []
    → (flat_map faults before ≡ [] → b1 ≡ b0 ++ flat_map bytes before)
    → (faults x ≡ [] → b2 ≡ b1 ++ bytes x)
    → flat_map faults after ≡ [] → b2 ≡ b0 ++ flat_map bytes after
bytes_more faults bytes b0 b1 b2 before x after more first next none =
    let split = sym (flat_more faults before x after more) ∙ none in
    next (no_later (flat_map faults before) (faults x) split)
    ∙ ap (λ b. b ++ bytes x) (first (no_earlier (flat_map faults before) (faults x) split))
    ∙ append_assoc b0 (flat_map bytes before) (bytes x)
    ∙ ap (λ b. b0 ++ b) (sym (flat_more bytes before x after more))
  where
    no_earlier : (xs ys : List Fault) → xs ++ ys ≡ [] → xs ≡ []
    no_earlier [] ys e = refl
    no_earlier (y ∷ xs) ys e = absurd cc

    no_later : (xs ys : List Fault) → xs ++ ys ≡ [] → ys ≡ []
    no_later [] ys e = e
    no_later (y ∷ xs) ys e = absurd cc
