-- Steps of the order of parts.
use Rattle.std.proofs.Common.{◌≡◌, ◌∙◌, ℕ, zero, suc, ◌+◌, ◌-◌, ◌<◌, ◌≤◌, Bool, true, false, not}
use Rattle.std.proofs.Common.{List, [], ◌∷◌, ◌++◌, Option, Some, None, ap, ap₂, add-one}
use Rattle.std.proofs.Common.{append_assoc}
use Rattle.std.proofs.Common.{arith, cond, drop, get_or, length, map, refl, sym, take}
use Rattle.std.specs.List.{filter, list_any}
use Rattle.std.specs.Prelude.{◌||◌, ◌==◌, is_some}
use Rattle.std.proofs.Math.Seq.{drop-cons}
use Rattle.std.proofs.lemmas.List.{map-append, take_more}
use Rattle.std.proofs.lemmas.List.Elements.{filter-append}
use Rattle.protobuf_parse_proto_text.specs.Order.{Block, Member, Part, IsMade, count_from, declares}
use Rattle.protobuf_parse_proto_text.specs.Order.{first_or, holds, made_positions, messages_between}
use Rattle.protobuf_parse_proto_text.specs.Order.{parts_before, parts_from, position_if_some}
use Rattle.protobuf_parse_model.proofs.OrTests.{or_left_comm}
use Rattle.protobuf_parse_proto_text.specs.Order.{stands_among, written_before}

-- one member more
pub one_part_more : (is_made : IsMade) (end : ℕ) (current : Block) (from to from' : ℕ) (m : Member)
    (ms : List Member) (total before now : List Part)
    → total ≡ before ++ parts_from is_made end current from (m ∷ ms)
    → to ≡ first_or end (made_positions (m ∷ ms)) → from' ≡ written_before current from to m
    → now ≡ before ++ parts_before is_made current from to m ++ declares m ∷ []
    → total ≡ now ++ parts_from is_made end m.block from' ms
one_part_more is_made end current from to from' m ms total before now e to_is from_is now_is =
    let rest : ℕ → List Part = λ n. parts_from is_made end m.block n ms in
    e ∙ ap (λ t. before ++ (parts_before is_made current from t m
    ++ declares m ∷ rest (written_before current from t m))) (sym to_is)
    ∙ ap (λ n. before ++ (parts_before is_made current from to m ++ declares m ∷ rest n))
    (sym from_is)
    ∙ (simp append_assoc refl)
    ∙ ap (λ z. z ++ rest from') (sym now_is)

-- so many numbers and one more
count_from-more : (from n : ℕ) → count_from from (suc n) ≡ count_from from n ++ (from + n) ∷ []
count_from-more from zero = ap (λ k. k ∷ []) (omega arith)
count_from-more from (suc n) =
    ap (λ ks. from ∷ ks) (count_from-more (suc from) n
    ∙ ap (λ k. count_from (suc from) n ++ k ∷ []) (omega arith))

by_made : (is_made : IsMade) (at : ℕ) (b : Bool) → is_made at ≡ b
    → map holds (filter (λ (k : ℕ). not (is_made k)) (at ∷ [])) ≡ cond b [] (holds at ∷ [])
by_made is_made at true e = ap (λ b. map holds (cond (not b) (at ∷ []) [])) e
by_made is_made at false e = ap (λ b. map holds (cond (not b) (at ∷ []) [])) e

-- the messages up to the next position
pub between_more : (is_made : IsMade) (from at : ℕ) (b : Bool) → from ≤ at → is_made at ≡ b
    → messages_between is_made from (at + 1)
    ≡ messages_between is_made from at ++ cond b [] (holds at ∷ [])
between_more is_made from at b le e =
    let test : ℕ → Bool = λ k. not (is_made k) in
    let count : at + 1 - from ≡ suc (at - from) = omega arith in
    let here : from + (at - from) ≡ at = omega arith in
    ap (λ n. map holds (filter test (count_from from n))) count
    ∙ ap (λ ks. map holds (filter test ks)) (count_from-more from (at - from)
    ∙ ap (λ k. count_from from (at - from) ++ k ∷ []) here)
    ∙ ap (map holds) (filter-append test (count_from from (at - from)) (at ∷ []))
    ∙ map-append holds (filter test (count_from from (at - from))) (filter test (at ∷ []))
    ∙ ap (λ ps. messages_between is_made from at ++ ps) (by_made is_made at b e)

-- no messages stand between a position and itself
pub between_none : (is_made : IsMade) (from : ℕ) → messages_between is_made from from ≡ []
between_none is_made from =
    let none : from - from ≡ 0 = omega arith in
    ap (λ n. map holds (filter (λ (k : ℕ). not (is_made k)) (count_from from n))) none

drop_one_more : (xs : List ℕ) (n x : ℕ) (ys : List ℕ) → drop n xs ≡ x ∷ ys → drop (suc n) xs ≡ ys
drop_one_more [] zero x ys e = absurd (let z : [] ≡ x ∷ ys = e in cc)
drop_one_more [] (suc n) x ys e = absurd (let z : [] ≡ x ∷ ys = e in cc)
drop_one_more (w ∷ ws) zero x ys e = let z : w ∷ ws ≡ x ∷ ys = e in cc
drop_one_more (w ∷ ws) (suc n) x ys e = drop_one_more ws n x ys e

-- the positions behind the next member: one less where it makes a message
pub positions_passed : (o : Option ℕ) (rest made : List ℕ) (passed : ℕ) → is_some o ≡ true
    → drop passed made ≡ position_if_some o ++ rest → drop (passed + 1) made ≡ rest
positions_passed None rest made passed some e = absurd (let z : false ≡ true = some in cc)
positions_passed (Some at) rest made passed some e =
    ap (λ n. drop n made) (add-one passed) ∙ drop_one_more made passed at rest e

pub positions_kept : (o : Option ℕ) (rest made : List ℕ) (passed : ℕ) → is_some o ≡ false
    → drop passed made ≡ position_if_some o ++ rest → drop passed made ≡ rest
positions_kept None rest made passed none e = e
positions_kept (Some at) rest made passed none e = absurd (let z : true ≡ false = none in cc)

any-push : (p : ℕ → Bool) (xs : List ℕ) (x : ℕ)
    → list_any p (xs ++ x ∷ []) ≡ (p x || list_any p xs)
any-push p [] x = refl
any-push p (y ∷ ys) x = ap (λ b. p y || b) (any-push p ys x)
    ∙ or_left_comm (p y) (p x) (list_any p ys)

-- one position more
pub among_more : (at : ℕ) (made : List ℕ) (k : ℕ) → k < length made
    → ((get_or made k 0 == at) || stands_among (take k made) at)
    ≡ stands_among (take (k + 1) made) at
among_more at made k lt =
    let test : ℕ → Bool = λ m. m == at in
    sym (ap (list_any test) (take_more made k 0 lt) ∙ any-push test (take k made) (get_or made k 0))

-- one element of what is left
pub left_next : {X : Type 0} (xs : List X) (k : ℕ) (x : X) → k < length xs → x ≡ get_or xs k x
    → drop k xs ≡ x ∷ drop (k + 1) xs
left_next xs k x lt is = drop-cons xs k x lt
    ∙ ap₂ (λ y n. y ∷ drop n xs) (sym is) (sym (add-one k))

pub left_none : {X : Type 0} (xs : List X) (k : ℕ) → length xs ≤ k → drop k xs ≡ []
left_none [] zero le = refl
left_none [] (suc k) le = refl
left_none (x ∷ xs) zero le = absurd (omega arith)
left_none (x ∷ xs) (suc k) le = left_none xs k (omega arith)
