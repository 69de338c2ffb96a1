-- Marks of the positions that numbers name, with one number more.
use Rattle.std.proofs.Common.{◌≡◌, ◌∙◌, ℕ, ◌+◌, ◌<◌, ℤ, pos, negsuc, Bool, true, false, ◌||◌}
use Rattle.std.proofs.Common.{List, [], ◌∷◌, ◌++◌, length, get_or, set, take, ap, sym, refl, arith}
use Rattle.std.proofs.Common.{subst, inl}
use Rattle.std.proofs.Common.{append-nil, append_assoc, suc, map}
use Rattle.std.proofs.Common.{inr}
use Rattle.std.specs.Prelude.{◌==◌, nat_lt, if◌then◌else◌, Some, None, ◌≢◌}
use Rattle.std.proofs.lemmas.Bool.{ltb-true, ltb-false, eq-eqb, ne_eqb}
use Rattle.std.proofs.lemmas.Bool.Decides.{eqb_tells}
use Rattle.std.proofs.lemmas.List.{length-map, length-set, length-take, get_or-set_other}
use Rattle.std.proofs.lemmas.List.Folds.{list_any-append}
use Rattle.std.proofs.lemmas.Grind.{get_or-set_at}
use Rattle.protobuf_parse_rules.specs.Positions.{by_position, is_named, names_position}
use Rattle.protobuf_parse_rules.specs.Marks.{Marks, named_among}
use Rattle.protobuf_parse_rules.proofs.Lists.{mapped_one_more}

or_false : (b : Bool) → (b || false) ≡ b
or_false true = refl
or_false false = refl

or_true : (b : Bool) → (b || true) ≡ true
or_true true = refl
or_true false = refl

named_more : (ns : List ℤ) (n : ℤ) (i : ℕ)
    → is_named (ns ++ n ∷ []) i ≡ (is_named ns i || names_position i n)
named_more ns n i = list_any-append (names_position i) ns (n ∷ [])
    ∙ ap (λ b. is_named ns i || b) (or_false (names_position i n))

-- ---- the position that a number names

-- It is one of the positions, and no other is.
record Names (count position : ℕ) (n : ℤ) : Type 0 where
  within : position < count
  here : names_position position n ≡ true
  others : (j : ℕ) → j ≢ position → names_position j n ≡ false

names_this : (count position i : ℕ) (b : Bool) → nat_lt i count ≡ b
    → (if b then Some i else None) ≡ Some position → Names count position (pos i)
names_this count position i false lt e = absurd cc
names_this count position i true lt e =
    let same : i ≡ position = cc in
    record {
      within = subst (λ z. z < count) same (ltb-true i count lt);
      here = eq-eqb i position same;
      others = λ j other. ne_eqb i j (λ h. other (sym h ∙ same));
    }

names_one : (count position : ℕ) (n : ℤ) → named_among count n ≡ Some position
    → Names count position n
names_one count position (pos i) e = names_this count position i (nat_lt i count) refl e
names_one count position (negsuc i) e = absurd cc

names_no_position : (count i : ℕ) (b : Bool) → nat_lt i count ≡ b
    → (if b then Some i else None) ≡ None → (j : ℕ) → j < count → (i == j) ≡ false
names_no_position count i true lt e j h = absurd cc
names_no_position count i false lt e j h =
    ne_eqb i j (λ same. absurd (omega (arith, ltb-false i count lt)))

names_none : (count : ℕ) (n : ℤ) → named_among count n ≡ None → (j : ℕ) → j < count
    → names_position j n ≡ false
names_none count (pos i) e j h = names_no_position count i (nat_lt i count) refl e j h
names_none count (negsuc i) e j h = refl

-- ---- the marks

pub marks_same : (ns : List ℤ) (n : ℤ) (count : ℕ) (marks : List Bool)
    → named_among count n ≡ None → Marks ns count marks → Marks (ns ++ n ∷ []) count marks
marks_same ns n count marks none m = record {
  long = m.long;
  each = λ i d h.
      m.each i d h
      ∙ sym (named_more ns n i ∙ ap (λ b. is_named ns i || b) (names_none count n none i h)
      ∙ or_false (is_named ns i));
}

pub marks_more : (ns : List ℤ) (n : ℤ) (count position : ℕ) (marks : List Bool)
    → named_among count n ≡ Some position → Marks ns count marks
    → Marks (ns ++ n ∷ []) count (set marks position true)
marks_more ns n count position marks says m =
    let s = names_one count position n says in
    record {
      long = length-set marks position true ∙ m.long;
      each = λ i d h. elim (eqb_tells i position) [
        | inl same ↦ get_or-set_at marks position i true d same.1 (omega (arith, m.long, s.within))
            ∙ sym (named_more ns n i
            ∙ ap (λ j. is_named ns i || names_position j n) same.1
            ∙ ap (λ b. is_named ns i || b) s.here ∙ or_true (is_named ns i))
        | inr other ↦ get_or-set_other marks position i true d other.1 ∙ m.each i d h
            ∙ sym (named_more ns n i ∙ ap (λ b. is_named ns i || b) (s.others i other.1)
            ∙ or_false (is_named ns i))
      ];
    }

none_more : (n : ℕ) → n ≡ n + 0
none_more n = omega arith

one_more : (n k : ℕ) → n + 1 + k ≡ n + suc k
one_more n k = omega arith

-- what is said by position of one element more
pub by_position-append : {X Y : Type 0} (f : ℕ → X → List Y) (n : ℕ) (xs : List X) (x : X)
    → by_position f n (xs ++ x ∷ []) ≡ by_position f n xs ++ f (n + length xs) x
by_position-append f n [] x = append-nil (f n x) ∙ ap (λ k. f k x) (none_more n)
by_position-append f n (y ∷ xs) x =
    ap (λ ys. f n y ++ ys) (by_position-append f (n + 1) xs x
    ∙ ap (λ k. by_position f (n + 1) xs ++ f k x) (one_more n (length xs)))
    ∙ sym (append_assoc (f n y) (by_position f (n + 1) xs) (f (n + suc (length xs)) x))

mapped_length : {X Y : Type 0} (v : X → Y) (xs : List X) (i : ℕ) → i < length xs
    → 0 + length (map v (take i xs)) ≡ i
mapped_length v xs i lt = omega (arith, length-map (take i xs) v, length-take i xs, lt)

pub positioned_more : {X Y Z : Type 0} (f : ℕ → Y → List Z) (v : X → Y) (xs : List X) (i : ℕ)
    (x : X) → i < length xs → x ≡ get_or xs i x
    → by_position f 0 (map v (take (i + 1) xs)) ≡ by_position f 0 (map v (take i xs)) ++ f i (v x)
positioned_more f v xs i x lt is =
    ap (by_position f 0) (mapped_one_more v xs i x lt is)
    ∙ by_position-append f 0 (map v (take i xs)) (v x)
    ∙ ap (λ n. by_position f 0 (map v (take i xs)) ++ f n (v x)) (mapped_length v xs i lt)
