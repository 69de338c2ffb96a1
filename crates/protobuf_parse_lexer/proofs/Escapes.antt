-- A text stands for one list of bytes.
use Rattle.std.proofs.Common.{◌≡◌, ℕ, zero, suc, ◌+◌, ◌<◌, ◌≤◌, true, List, [], ◌∷◌, ◌++◌, length}
use Rattle.std.proofs.Common.{map, take, drop, get_or, slice_index, refl, sym, ap, ◌∙◌, subst, inl}
use Rattle.std.proofs.Common.{inr, arith, append_assoc, append-nil, get_or-take}
use Rattle.std.specs.List.{list_all}
use Rattle.std.proofs.lemmas.Bool.{false≢true, and_parts}
use Rattle.std.proofs.lemmas.List.{get_or-map, length-map, take_more}
use Rattle.protobuf_parse_lexer.specs.Tokens.{is_no_backslash}
use Rattle.protobuf_parse_lexer.specs.Text.{Bytes, is_in, AllIn}
use Rattle.protobuf_parse_lexer.specs.Tokens.{IsEscape, Decodes, done, as_is, escape, DecodesAll}
use Rattle.protobuf_parse_lexer.specs.Tokens.{none, piece}
use Rattle.protobuf_parse_lexer.specs.PieceParts.{HasNoEscape, IsPart}
use Rattle.protobuf_parse_lexer.specs.Escapes.{one_escape}
use Rattle.protobuf_parse_lexer.specs.declared.lexer.bytes.ByteClass.{ByteClass}

-- the digits of a front are those of the whole
pub digits_of_front : (c : ByteClass) (z : Bytes) (i n r : ℕ) → n ≤ r
    → ((k : ℕ) → i ≤ k → k < r → is_in c (slice_index (take n z) k) ≡ true) → AllIn c z i n
digits_of_front c z i n r less passes k after before =
    subst (λ b. is_in c b ≡ true) (get_or-take n z k 0 before) (passes k after (omega arith))

-- ---- a piece, decoded up to a rest

pub record Goes (whole rest v : Bytes) : Type 0 where
  pub forward : (w : Bytes) → Decodes rest w → Decodes whole (v ++ w)
  pub back : (u : Bytes) → Decodes whole u → (w : Bytes) × Decodes rest w

no_slash : {X : Type 0} (b : ℕ) (z : Bytes) → (b ≡ 92 → ⊥) → slice_index (b ∷ z) 0 ≡ 92 → X
no_slash b z bad is = absurd (bad is)

after_as_is : {b : ℕ} {z u : Bytes} → (b ≡ 92 → ⊥) → Decodes (b ∷ z) u → (w : Bytes) × Decodes z w
after_as_is {b} {z} bad (as_is {v = v} b' bad' d) = (v, d)
after_as_is {b} {z} bad (escape n w is e d) = no_slash b z bad is

pub goes_as_is : (whole z v : Bytes) (b : ℕ) → (b ≡ 92 → ⊥) → Goes whole (b ∷ z) v
    → Goes whole z (v ++ b ∷ [])
goes_as_is whole z v b bad g = record {
  forward = λ w d. subst (Decodes whole) (sym (append_assoc v (b ∷ []) w))
      (g.forward (b ∷ w) (as_is b bad d));
  back = λ u d. after_as_is bad (g.back u d).1;
}

after_escape : {z u w : Bytes} {n : ℕ} → slice_index z 0 ≡ 92 → IsEscape z n w → Decodes z u
    → (v : Bytes) × Decodes (drop n z) v
after_escape is e done = absurd (omega arith)
after_escape is e (as_is {z = z} b bad d) = no_slash b z bad is
after_escape {z} is e (escape {v = v} m x is' f d) =
    let same = one_escape f e in (v, subst (λ k. Decodes (drop k z) v) same.0 d)

pub goes_escape : (whole z v w : Bytes) (n : ℕ) → slice_index z 0 ≡ 92 → IsEscape z n w
    → Goes whole z v → Goes whole (drop n z) (v ++ w)
goes_escape whole z v w n is e g = record {
  forward = λ x d. subst (Decodes whole) (sym (append_assoc v w x))
      (g.forward (w ++ x) (escape n w is e d));
  back = λ u d. after_escape is e (g.back u d).1;
}

pub goes_whole : (whole v : Bytes) → Goes whole [] v → Decodes whole v
goes_whole whole v g = subst (Decodes whole) (append-nil v) (g.forward [] done)

no_escape : {z u : Bytes} → slice_index z 0 ≡ 92 → HasNoEscape z → Decodes z u → ⊥
no_escape is bad done = omega arith
no_escape is bad (as_is {z = z} b other d) = other is
no_escape is bad (escape n w is' e d) = bad n w e

pub goes_wrong : (whole z v : Bytes) → slice_index z 0 ≡ 92 → HasNoEscape z → Goes whole z v
    → (u : Bytes) → Decodes whole u → ⊥
goes_wrong whole z v is bad g u d = no_escape is bad (g.back u d).1

-- ---- parts

goes_byte : (whole z v : Bytes) → 0 < length z → (slice_index z 0 ≡ 92 → ⊥) → Goes whole z v
    → Goes whole (drop 1 z) (v ++ slice_index z 0 ∷ [])
goes_byte whole [] v some bad g = absurd (omega arith)
goes_byte whole (b ∷ z) v some bad g = goes_as_is whole z v b bad g

pub goes_part : (whole z v w : Bytes) (n : ℕ) → IsPart z n w → Goes whole z v
    → Goes whole (drop n z) (v ++ w)
goes_part whole z v w n p g =
    elim p.is [
      | inl h ↦ goes_escape whole z v w n h.0 h.1 g
      | inr h ↦
          let one : n ≡ 1 = h.1 in
          let byte : w ≡ slice_index z 0 ∷ [] = h.2 in
          subst (λ x. Goes whole (drop n z) (v ++ x)) (sym byte)
          (subst (λ k. Goes whole (drop k z) (v ++ slice_index z 0 ∷ [])) (sym one)
          (goes_byte whole z v (omega (arith, p.some, p.within)) h.0 g))
    ]

pub goes_end : (whole z v : Bytes) → length z ≡ 0 → Goes whole z v → Decodes whole v
goes_end whole [] v e g = goes_whole whole v g
goes_end whole (b ∷ z) v e g = absurd (omega arith)

-- ---- one list of bytes

one_end : {v : Bytes} → Decodes [] v → [] ≡ v
one_end done = refl
one_end (escape n w is e d) = absurd (omega arith)

pub one_decoding : {z u v : Bytes} → Decodes z u → Decodes z v → u ≡ v
one_decoding done b = one_end b
one_decoding (as_is b bad d) (as_is c bad' e) = ap (λ v. b ∷ v) (one_decoding d e)
one_decoding (as_is {z = z} b bad d) (escape n w is e f) = no_slash b z bad is
one_decoding (escape n w is e f) (as_is {z = z} b bad d) = no_slash b z bad is
one_decoding (escape n w is e f) done = absurd (omega arith)
one_decoding {z} (escape {v = u} m w is e f) (escape {v = v} n x is' e' f') =
    let same = one_escape e' e in
    let rest = one_decoding f (subst (λ k. Decodes (drop k z) v) same.0 f') in
    ap (λ a. a ++ u) (sym same.1) ∙ ap (λ a. x ++ a) rest

pub one_decoding_of_all : {zs : List Bytes} {u v : Bytes} → DecodesAll zs u → DecodesAll zs v
    → u ≡ v
one_decoding_of_all none none = refl
one_decoding_of_all (piece {v = u} z w d more) (piece {v = v} z' x e more') =
    ap (λ a. a ++ u) (one_decoding d e) ∙ ap (λ a. x ++ a) (one_decoding_of_all more more')

-- ---- several pieces

pub push_all : (zs : List Bytes) (z v w : Bytes) → DecodesAll zs v → Decodes z w
    → DecodesAll (zs ++ z ∷ []) (v ++ w)
push_all [] z v w none d = subst (DecodesAll (z ∷ [])) (append-nil w) (piece z w d none)
push_all (y ∷ zs) z v w (piece {v = u} _ x e more) d =
    subst (DecodesAll (y ∷ (zs ++ z ∷ []))) (sym (append_assoc x u w))
    (piece y x e (push_all zs z u w more d))

pub each_decodes : (zs : List Bytes) (v : Bytes) (i : ℕ) (d : Bytes) → DecodesAll zs v
    → i < length zs → (w : Bytes) × Decodes (get_or zs i d) w
each_decodes [] v i d none within = absurd (omega arith)
each_decodes (z ∷ zs) v zero d (piece _ w e more) within = (w, e)
each_decodes (z ∷ zs) v (suc i) d (piece {v = u} _ w e more) within =
    each_decodes zs u i d more (omega arith)

pub next_piece : {S : Type 0} (f : S → Bytes) (xs : List S) (i : ℕ) (x : S) (z old new w : Bytes)
    → i < length xs → x ≡ get_or xs i x → z ≡ f x →
    DecodesAll (take i (map f xs)) old → Decodes z w → new ≡ old ++ w
    → DecodesAll (take (i + 1) (map f xs)) new
next_piece f xs i x z old new w within is bytes before d made =
    let inside : i < length (map f xs) = omega (arith, length-map xs f) in
    let at : get_or (map f xs) i z ≡ z = get_or-map f xs i x z within ∙ ap f (sym is) ∙ sym bytes in
    let longer : take (i + 1) (map f xs) ≡ take i (map f xs) ++ z
    ∷ [] = take_more (map f xs) i z inside ∙ ap (λ y. take i (map f xs) ++ y ∷ []) at in
    subst (λ zs. DecodesAll zs new) (sym longer)
    (subst (DecodesAll (take i (map f xs) ++ z ∷ [])) (sym made)
    (push_all (take i (map f xs)) z old w before d))

pub wrong_piece : {S : Type 0} (f : S → Bytes) (xs : List S) (i : ℕ) (x : S) (z : Bytes)
    → i < length xs → x ≡ get_or xs i x → z ≡ f x →
    ((w : Bytes) → Decodes z w → ⊥) → (v : Bytes) → DecodesAll (map f xs) v → ⊥
wrong_piece f xs i x z within is bytes bad v all =
    let inside : i < length (map f xs) = omega (arith, length-map xs f) in
    let at : get_or (map f xs) i z ≡ z = get_or-map f xs i x z within ∙ ap f (sym is) ∙ sym bytes in
    let one = each_decodes (map f xs) v i z all inside in
    bad one.0 (subst (λ y. Decodes y one.0) at one.1)

no_backslash : (b : ℕ) → is_no_backslash b ≡ true → b ≡ 92 → ⊥
no_backslash b h e = false≢true (subst (λ x. is_no_backslash x ≡ true) e h)

-- a piece without backslashes stands for itself
pub as_is_decodes : (z : Bytes) → list_all is_no_backslash z ≡ true → Decodes z z
as_is_decodes [] h = done
as_is_decodes (b ∷ z) h =
    let p = and_parts (is_no_backslash b) (list_all is_no_backslash z) h in
    as_is b (no_backslash b p.0) (as_is_decodes z p.1)

-- a piece alone
pub as_is_alone : (z : Bytes) → list_all is_no_backslash z ≡ true → DecodesAll (z ∷ []) z
as_is_alone z h = push_all [] z [] z none (as_is_decodes z h)
