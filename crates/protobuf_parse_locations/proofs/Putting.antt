-- Maps that grow.
use Rattle.std.proofs.Common.{◌≡◌, ℕ, Bool, true, false, cond, List, [], ◌∷◌, ◌++◌, Vec, refl, sym}
use Rattle.std.proofs.Common.{ap, subst, ◌∙◌, Option, Some, None, ⊎_elim}
use Rattle.std.specs.Prelude.{bytes_eq, string_bytes, unwrap_or, ◌&&◌, ◌==◌, String}
use Rattle.std.specs.BTreeMap.{BTreeMap, IsEmpty, UpdatesBy, get, get_by_text, is_at}
use Rattle.std.specs.Cmp.{eq_by_cmp_equiv}
use Rattle.std.specs.Cmp.Lexicographic.{slice_cmp, bytes_decides, nat_list_cmp_total}
use Rattle.std.specs.Cmp.Lexicographic.{nat_list_eq_equiv, texts_ties}
use Rattle.std.specs.Global.{Global}
use Rattle.std.specs.Map.{KeepsOthers, IsKeyTest, AreApart, lookup}
use Rattle.std.specs.Option.{option_and_then, option_or}
use Rattle.std.specs.Ordering.{is_eq, nat_cmp}
use Rattle.std.specs.String.{string_cmp}
use Rattle.std.proofs.lemmas.Bool.{cases_Bool, cond-true, cond-false}
use Rattle.std.proofs.lemmas.Bool.Decides.{Decides-eqb}
use Rattle.std.proofs.lemmas.Map.Text.{btree_map_updates_text}
use Rattle.std.proofs.lemmas.Slice.Eq.{bytes_eq-Decides}
use Rattle.protobuf_parse_model.specs.Descriptors.{Text}
use Rattle.protobuf_parse_source_info.specs.Walks.{Path}
use Rattle.protobuf_parse_locations.specs.Kept.{ByPart, ByPath, part_kept, path_kept}

same_bools : (a b : Bool) → (a ≡ true → b ≡ true) → (b ≡ true → a ≡ true) → a ≡ b
same_bools true true f g = refl
same_bools false false f g = refl
same_bools true false f g = sym (f refl)
same_bools false true f g = g refl

flipped : (a b : List ℕ) → bytes_eq a b ≡ bytes_eq b a
flipped a b = same_bools (bytes_eq a b) (bytes_eq b a)
    (λ e. (bytes_eq-Decides b a).1 (sym ((bytes_eq-Decides a b).0 e)))
    (λ e. (bytes_eq-Decides a b).1 (sym ((bytes_eq-Decides b a).0 e)))

put_absent : {V : Type 0} (o : Option V) (b : Bool) (v : V) → (b ≡ true → o ≡ None)
    → cond b (Some v) o ≡ option_or o (cond b (Some v) None)
put_absent o true v none = ap (λ z. option_or z (Some v)) (sym (none refl))
put_absent None false v none = refl
put_absent (Some x) false v none = refl

-- ---- names

pub name_put : (old new : BTreeMap (String Global) ℕ) (key : String Global) (name : Text)
    (at : ℕ) → string_bytes key ≡ name → get_by_text old name ≡ None
    → UpdatesBy string_cmp (λ k. slice_cmp nat_cmp (string_bytes key) (string_bytes k)) old new
    (Some at)
    → (q : Text) → get_by_text new q
    ≡ option_or (get_by_text old q) (cond (bytes_eq q name) (Some at) None)
name_put old new key name at is absent updates q =
    btree_map_updates_text (string_bytes key) old new (Some at) updates q
    ∙ ap (λ (t : Text). cond (bytes_eq t q) (Some at) (get_by_text old q)) is
    ∙ ap (λ b. cond b (Some at) (get_by_text old q)) (flipped name q)
    ∙ put_absent (get_by_text old q) (bytes_eq q name) at
    (λ e. ap (get_by_text old) ((bytes_eq-Decides q name).0 e) ∙ absent)

-- ---- paths

apart : (bs cs ks : List ℕ) → bytes_eq bs cs ≡ false → is_eq (slice_cmp nat_cmp bs ks) ≡ true
    → is_eq (slice_cmp nat_cmp cs ks) ≡ false
apart bs cs ks n y =
    sym (texts_ties cs ks) ∙ nat_list_eq_equiv.symm cs ks
    ∙ sym (nat_list_eq_equiv.congr bs ks cs (texts_ties bs ks ∙ y)) ∙ n

others : {K X : Type 0} (eq : K → K → Bool) (test : K → Bool) (old new : List (K × X))
    → KeepsOthers eq test old new → (other : K → Bool) → IsKeyTest eq other → AreApart test other
    → lookup other new ≡ lookup other old
unfolding KeepsOthers
others eq test old new h = h

-- at each path, the position is there or as it was
at_each : (p : Path) (old new : ByPath) (at : ℕ)
    → UpdatesBy (λ (x y : Vec ℕ Global). slice_cmp nat_cmp x.items y.items)
    (λ (k : Vec ℕ Global). slice_cmp nat_cmp p k.items) old new (Some at)
    → (q : Path) → path_kept new q ≡ cond (bytes_eq p q) (Some at) (path_kept old q)
at_each p old new at h q =
    ⊎_elim
    (λ y. subst (λ (l : Path). path_kept new l ≡ Some at) ((bytes_decides p q).0 y) h.1
    ∙ sym (cond-true (bytes_eq p q) (Some at) (path_kept old q) y))
    (λ n. others _ _ _ _ h.3 _
    (λ x y. (eq_by_cmp_equiv nat_list_cmp_total).congr q x.items y.items)
    (λ k. apart p q k.items n)
    ∙ sym (cond-false (bytes_eq p q) (Some at) (path_kept old q) n))
    (cases_Bool (bytes_eq p q))

pub path_put : (old new : ByPath) (key : Vec ℕ Global) (path : Path) (at : ℕ)
    → key.items ≡ path → path_kept old path ≡ None
    → UpdatesBy (λ (x y : Vec ℕ Global). slice_cmp nat_cmp x.items y.items)
    (λ (k : Vec ℕ Global). slice_cmp nat_cmp key.items k.items) old new (Some at)
    → (q : Path) → path_kept new q
    ≡ option_or (path_kept old q) (cond (bytes_eq q path) (Some at) None)
path_put old new key path at is absent updates q =
    at_each key.items old new at updates q
    ∙ ap (λ (p : Path). cond (bytes_eq p q) (Some at) (path_kept old q)) is
    ∙ ap (λ b. cond b (Some at) (path_kept old q)) (flipped path q)
    ∙ put_absent (path_kept old q) (bytes_eq q path) at
    (λ e. ap (path_kept old) ((bytes_eq-Decides q path).0 e) ∙ absent)

-- ---- parts

pub or_none : {X : Type 0} (o : Option X) → option_or o None ≡ o
or_none None = refl
or_none (Some x) = refl

unwrapped : (o : Option ByPath) (m : ByPath) (q : Path) → IsEmpty m
    → path_kept (unwrap_or o m) q ≡ option_and_then (λ (inside : ByPath). path_kept inside q) o
unwrapped None m q empty = ap (lookup (is_at (λ (k : Vec ℕ Global). slice_cmp nat_cmp q k.items)))
    empty
unwrapped (Some x) m q empty = refl

part_by : (b c : Bool) (w : ByPath) (old : Option ByPath) (q : Path) (at : ℕ)
    → (b ≡ true → path_kept w q
    ≡ option_or (option_and_then (λ (inside : ByPath). path_kept inside q) old)
    (cond c (Some at) None))
    → option_and_then (λ (inside : ByPath). path_kept inside q) (cond b (Some w) old)
    ≡ option_or (option_and_then (λ (inside : ByPath). path_kept inside q) old)
    (cond (b && c) (Some at) None)
part_by true c w old q at e = e refl
part_by false c w old q at e =
    sym (or_none (option_and_then (λ (inside : ByPath). path_kept inside q) old))

pub part_put : (old : ByPart) (q before : Path) (n number at : ℕ) (inside w none : ByPath)
    (now : Option ByPath) → IsEmpty none
    → now ≡ cond (n == number) (Some w) (get nat_cmp old n)
    → inside ≡ unwrap_or (get nat_cmp old number) none
    → ((p : Path) → path_kept w p
    ≡ option_or (path_kept inside p) (cond (bytes_eq p before) (Some at) None))
    → option_and_then (λ (m : ByPath). path_kept m q) now
    ≡ option_or (part_kept old q n) (cond (n == number && bytes_eq q before) (Some at) None)
part_put old q before n number at inside w none now empty set had puts =
    let found : Option ByPath → Option ℕ =
    option_and_then (λ (m : ByPath). path_kept m q) in
    ap found set
    ∙ part_by (n == number) (bytes_eq q before) w (get nat_cmp old n) q at
    (λ e. puts q
    ∙ ap (λ o. option_or o (cond (bytes_eq q before) (Some at) None))
    (ap (λ (m : ByPath). path_kept m q) had
    ∙ unwrapped (get nat_cmp old number) none q empty
    ∙ ap (λ (m : ℕ). found (get nat_cmp old m)) (sym ((Decides-eqb n number).0 e))))

-- ---- a path with a number behind it

and_false : (b : Bool) → (b && false) ≡ false
and_false true = refl
and_false false = refl

and_turned : (a b c : Bool) → (a && (b && c)) ≡ (b && (a && c))
and_turned true b c = refl
and_turned false b c = sym (and_false b)

none_behind : (bs : Path) (n : ℕ) → bytes_eq [] (bs ++ n ∷ []) ≡ false
none_behind [] n = refl
none_behind (b ∷ bs) n = refl

not_none : (bs : Path) (n : ℕ) → bytes_eq (bs ++ n ∷ []) [] ≡ false
not_none [] n = refl
not_none (b ∷ bs) n = refl

-- it is another such path if both are
pub part_eq : (p q : Path) (n m : ℕ)
    → bytes_eq (p ++ n ∷ []) (q ++ m ∷ []) ≡ (n == m && bytes_eq p q)
part_eq [] [] n m = refl
part_eq [] (b ∷ q) n m =
    ap (λ z. n == b && z) (none_behind q m) ∙ and_false (n == b) ∙ sym (and_false (n == m))
part_eq (a ∷ p) [] n m =
    ap (λ z. a == m && z) (not_none p n) ∙ and_false (a == m) ∙ sym (and_false (n == m))
part_eq (a ∷ p) (b ∷ q) n m =
    ap (λ z. a == b && z) (part_eq p q n m) ∙ and_turned (a == b) (n == m) (bytes_eq p q)

-- it is not the empty one
pub part_none : (p : Path) (n : ℕ) → bytes_eq (p ++ n ∷ []) [] ≡ false
part_none p n = not_none p n
