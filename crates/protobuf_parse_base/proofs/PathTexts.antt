-- Proto paths as lists of parts.
use Rattle.std.specs.Prelude.{if◌then◌else◌}
use Rattle.std.proofs.Common.{◌≡◌, ℕ, ◌==◌, ◌<◌, ◌+◌, ◌&&◌, ◌||◌, List, [], ◌∷◌, Bool, true}
use Rattle.std.proofs.Common.{false, not, Option, None, Some, length, get_or, drop, refl, sym, ap}
use Rattle.std.proofs.Common.{◌∙◌, arith, inl, inr}
use Rattle.std.proofs.lemmas.Bool.{cases_Bool, and_parts, and_from, cond-true, cond-false, ne_eqb}
use Rattle.std.proofs.lemmas.Bool.{not-true, not_from_false, or_parts, or_from}
use Rattle.std.proofs.lemmas.List.{at_drop_more}
use Rattle.std.proofs.lemmas.List.Folds.{list_any-append}
use Rattle.std.proofs.lemmas.List.Splits.{slice_split-cons_yes, slice_split-cons_no}
use Rattle.std.proofs.lemmas.List.Splits.{join_with_byte-slice_split}
use Rattle.std.specs.List.{list_all, list_any, onto_first}
use Rattle.std.specs.Option.{is_some}
use Rattle.protobuf_parse_base.specs.declared.proto_path.error.PathError.{PathError}
use Rattle.protobuf_parse_base.specs.declared.proto_path.error.PathError.TheVariants as fault
use Rattle.protobuf_parse_base.specs.Paths.{is_empty, is_dot, is_dot_dot, is_part, has_backslash}
use Rattle.protobuf_parse_base.specs.Paths.{joined, slash_parts, part_fault, first_fault}
use Rattle.protobuf_parse_base.specs.Paths.{first_fault_or, path_fault, host_path_fault}
use Rattle.protobuf_parse_base.specs.Paths.{starts_with_slash, kept_of, kept_parts, IsProtoPath}
use Rattle.protobuf_parse_base.proofs.Splits.{HasFirst, slice_split-HasFirst, slice_split-append}

-- ---- the loop that looks for the first fault

pub first_fault-turn : (parts : List (List ℕ)) (n : ℕ) (part : List ℕ)
    → (n < length parts) × (part ≡ get_or parts n part)
    → first_fault (drop n parts)
    ≡ first_fault_or (part_fault part) (first_fault (drop (n + 1) parts))
first_fault-turn parts n part h =
    at_drop_more first_fault parts n part h.0
    ∙ ap (λ p. first_fault_or (part_fault p) (first_fault (drop (n + 1) parts))) (sym h.1)

pub first_fault_or-found : (found later : Option PathError) → true ≡ is_some found
    → first_fault_or found later ≡ found
first_fault_or-found None later h = cc h
first_fault_or-found (Some fault) later h = refl

pub first_fault_or-none : (found later : Option PathError) → false ≡ is_some found
    → first_fault_or found later ≡ later
first_fault_or-none None later h = refl
first_fault_or-none (Some fault) later h = cc h

-- ---- parts without backslashes and slashes

abbrev pub is_clean : List ℕ → Bool
is_clean part = list_all (λ b. not (b == 92 || b == 47)) part

clean-byte : (b : ℕ) → (b == 92) ≡ false → (b == 47) ≡ false → not (b == 92 || b == 47) ≡ true
clean-byte b h hs = not_from_false (b == 92 || b == 47) (or_from (b == 92) (b == 47) h hs)

clean-onto : (b : ℕ) (parts : List (List ℕ)) → not (b == 92 || b == 47) ≡ true
    → list_all is_clean parts ≡ true → list_all is_clean (onto_first b parts) ≡ true
clean-onto b [] h hs =
    and_from (is_clean (b ∷ [])) true (and_from (not (b == 92 || b == 47)) true h refl) refl
clean-onto b (part ∷ parts) h hs =
    let both = and_parts (is_clean part) (list_all is_clean parts) hs in
    and_from (is_clean (b ∷ part)) (list_all is_clean parts)
    (and_from (not (b == 92 || b == 47)) (is_clean part) h both.0) both.1

pub slash_parts-clean : (text : List ℕ) → has_backslash text ≡ false
    → list_all is_clean (slash_parts text) ≡ true
slash_parts-clean [] h = refl
slash_parts-clean (b ∷ bs) h =
    let both = or_parts (b == 92) (has_backslash bs) h in
    let rest : list_all is_clean (slash_parts bs) ≡ true = slash_parts-clean bs both.1 in
    elim (cases_Bool (b == 47)) [
      | inl cut ↦ ap (list_all is_clean) (slice_split-cons_yes (λ c. c == 47) b bs cut) ∙ rest
      | inr kept ↦ ap (list_all is_clean) (slice_split-cons_no (λ c. c == 47) b bs kept)
          ∙ clean-onto b (slash_parts bs) (clean-byte b both.0 kept) rest
    ]

-- ---- parts without faults

fault-none : (a b c d : Bool) (x y z : PathError)
    → (if a then Some x else if b then Some y else if c then Some z else None) ≡ None → d ≡ true
    → (not a && not b && not c && d) ≡ true
fault-none true b c d x y z h hs = cc h
fault-none false true c d x y z h hs = cc h
fault-none false false true d x y z h hs = cc h
fault-none false false false d x y z h hs = hs

none-fault : (a b c d : Bool) (x y z : PathError) → (not a && not b && not c && d) ≡ true
    → (if a then Some x else if b then Some y else if c then Some z else None) ≡ None
none-fault true b c d x y z h = cc h
none-fault false true c d x y z h = cc h
none-fault false false true d x y z h = cc h
none-fault false false false d x y z h = refl

or-none : (found later : Option PathError) → first_fault_or found later ≡ None
    → (found ≡ None) × (later ≡ None)
or-none None later h = (refl, h)
or-none (Some fault) later h = cc h

-- clean parts without a fault are parts of a proto path
are_parts-from_faults : (parts : List (List ℕ)) → list_all is_clean parts ≡ true
    → first_fault parts ≡ None → list_all is_part parts ≡ true
are_parts-from_faults [] h hs = refl
are_parts-from_faults (part ∷ parts) h hs =
    let both = and_parts (is_clean part) (list_all is_clean parts) h in
    let none = or-none (part_fault part) (first_fault parts) hs in
    let one : is_part part ≡ true = fault-none (is_empty part) (is_dot part) (is_dot_dot part)
    (is_clean part) _ _ _ none.0 both.0 in
    and_from (is_part part) (list_all is_part parts) one (are_parts-from_faults parts both.1 none.1)

first_fault-are_parts : (parts : List (List ℕ)) → list_all is_part parts ≡ true
    → first_fault parts ≡ None
first_fault-are_parts [] h = refl
first_fault-are_parts (part ∷ parts) h =
    let both = and_parts (is_part part) (list_all is_part parts) h in
    let one : part_fault part ≡ None = none-fault (is_empty part) (is_dot part) (is_dot_dot part)
    (is_clean part) fault.EmptyComponent fault.Dot fault.DotDot both.0 in
    ap (λ found. first_fault_or found (first_fault parts)) one ∙ first_fault-are_parts parts both.1

-- ---- the parts of joined parts

part-clean : (part : List ℕ) → is_part part ≡ true → is_clean part ≡ true
part-clean part h =
    (and_parts (not (is_empty part) && not (is_dot part) && not (is_dot_dot part))
    (is_clean part) h).1

part-nonempty : (part : List ℕ) → is_part part ≡ true → is_empty part ≡ false
part-nonempty part h =
    let first = and_parts (not (is_empty part) && not (is_dot part) && not (is_dot_dot part))
    (is_clean part) h in
    let second = and_parts (not (is_empty part) && not (is_dot part))
    (not (is_dot_dot part)) first.0 in
    not-true (is_empty part) (and_parts (not (is_empty part)) (not (is_dot part)) second.0).0

slash_parts-one : (part : List ℕ) → is_clean part ≡ true → slash_parts part ≡ part ∷ []
slash_parts-one [] h = refl
slash_parts-one (b ∷ bs) h =
    let both = and_parts (not (b == 92 || b == 47)) (is_clean bs) h in
    let kept : (b == 47)
    ≡ false = (or_parts (b == 92) (b == 47) (not-true (b == 92 || b == 47) both.0)).1 in
    slice_split-cons_no (λ c. c == 47) b bs kept ∙ ap (onto_first b) (slash_parts-one bs both.1)

slash_parts-joined : (part : List ℕ) (parts : List (List ℕ))
    → list_all is_part (part ∷ parts) ≡ true → slash_parts (joined (part ∷ parts)) ≡ part ∷ parts
slash_parts-joined part [] h =
    slash_parts-one part (part-clean part (and_parts (is_part part) true h).0)
slash_parts-joined part (next ∷ parts) h =
    let both = and_parts (is_part part) (list_all is_part (next ∷ parts)) h in
    slice_split-append (λ c. c == 47) part 47 (joined (next ∷ parts)) refl
    ∙ rw (slash_parts-one part (part-clean part both.0), slash_parts-joined next parts both.1) refl

clean-no_backslash : (part : List ℕ) → is_clean part ≡ true → has_backslash part ≡ false
clean-no_backslash [] h = refl
clean-no_backslash (b ∷ bs) h =
    let both = and_parts (not (b == 92 || b == 47)) (is_clean bs) h in
    let kept : (b == 92)
    ≡ false = (or_parts (b == 92) (b == 47) (not-true (b == 92 || b == 47) both.0)).0 in
    or_from (b == 92) (has_backslash bs) kept (clean-no_backslash bs both.1)

joined-no_backslash : (parts : List (List ℕ)) → list_all is_part parts ≡ true
    → has_backslash (joined parts) ≡ false
joined-no_backslash [] h = refl
joined-no_backslash (part ∷ []) h =
    clean-no_backslash part (part-clean part (and_parts (is_part part) true h).0)
joined-no_backslash (part ∷ next ∷ parts) h =
    let both = and_parts (is_part part) (list_all is_part (next ∷ parts)) h in
    list_any-append (λ b. b == 92) part (47 ∷ joined (next ∷ parts))
    ∙ or_from (has_backslash part) (has_backslash (47 ∷ joined (next ∷ parts)))
    (clean-no_backslash part (part-clean part both.0)) (joined-no_backslash (next ∷ parts) both.1)

joined-nonempty : (part : List ℕ) (parts : List (List ℕ)) → is_empty part ≡ false
    → is_empty (joined (part ∷ parts)) ≡ false
joined-nonempty part [] h = h
joined-nonempty [] (next ∷ parts) h = cc h
joined-nonempty (b ∷ bs) (next ∷ parts) h =
    ne_eqb (length (joined ((b ∷ bs) ∷ next ∷ parts))) 0 (λ same. absurd (omega arith))

-- ---- a text has no fault if and only if it is a proto path

path_fault-cases : (a b : Bool) (x y : PathError) (z : Option PathError)
    → (if a then Some x else if b then Some y else z) ≡ None
    → (a ≡ false) × (b ≡ false) × (z ≡ None)
path_fault-cases true b x y z h = cc h
path_fault-cases false true x y z h = cc h
path_fault-cases false false x y z h = (refl, refl, h)

HasFirst-nonempty : (parts : List (List ℕ)) → HasFirst parts → not (length parts == 0) ≡ true
HasFirst-nonempty [] h = cc h.is
HasFirst-nonempty (part ∷ parts) h =
    not_from_false (length (part ∷ parts) == 0)
    (ne_eqb (length (part ∷ parts)) 0 (λ same. absurd (omega arith)))

pub IsProtoPath-from_fault : (text : List ℕ) → path_fault text ≡ None → IsProtoPath text
IsProtoPath-from_fault text h =
    let cases = path_fault-cases (is_empty text) (has_backslash text) fault.Empty fault.Backslashes
    (first_fault (slash_parts text)) h in (
      slash_parts text,
      HasFirst-nonempty (slash_parts text) (slice_split-HasFirst (λ c. c == 47) text),
      are_parts-from_faults (slash_parts text) (slash_parts-clean text cases.1) cases.2,
      sym (join_with_byte-slice_split 47 text),
    )

pub path_fault-joined : (parts : List (List ℕ)) → not (length parts == 0) ≡ true
    → list_all is_part parts ≡ true → path_fault (joined parts) ≡ None
path_fault-joined [] h hs = cc h
path_fault-joined (part ∷ parts) h hs =
    let full : is_empty (joined (part ∷ parts))
    ≡ false = joined-nonempty part parts
    (part-nonempty part (and_parts (is_part part) (list_all is_part parts) hs).0) in
    let straight : has_backslash (joined (part ∷ parts))
    ≡ false = joined-no_backslash (part ∷ parts) hs in
    let faultless : first_fault (slash_parts (joined (part ∷ parts)))
    ≡ None = ap first_fault (slash_parts-joined part parts hs)
    ∙ first_fault-are_parts (part ∷ parts) hs in
    cond-false (is_empty (joined (part ∷ parts))) _ _ full
    ∙ (cond-false (has_backslash (joined (part ∷ parts))) _ _ straight ∙ faultless)

pub path_fault-proto_path : (text : List ℕ) → IsProtoPath text → path_fault text ≡ None
path_fault-proto_path text h = ap path_fault h.3 ∙ path_fault-joined h.0 h.1 h.2

-- ---- the parts that are kept of a path of the host

abbrev is_kept : List ℕ → Bool
is_kept part = not (is_empty part || is_dot part)

kept_of-nonempty : (parts : List (List ℕ)) → list_all (λ p. not (is_empty p)) (kept_of parts) ≡ true
kept_of-nonempty [] = refl
kept_of-nonempty (part ∷ parts) =
    elim (cases_Bool (is_kept part)) [
      | inl kept ↦
          let full : not (is_empty part)
          ≡ true = not_from_false (is_empty part)
          (or_parts (is_empty part) (is_dot part)
          (not-true (is_empty part || is_dot part) kept)).0 in
          ap (list_all (λ p. not (is_empty p))) (cond-true (is_kept part) _ _ kept)
          ∙ and_from (not (is_empty part)) (list_all (λ p. not (is_empty p)) (kept_of parts)) full
          (kept_of-nonempty parts)
      | inr dropped ↦ ap (list_all (λ p. not (is_empty p))) (cond-false (is_kept part) _ _ dropped)
          ∙ kept_of-nonempty parts
    ]

-- the parts that are kept are parts of a proto path
kept-part : (a b c d : Bool) → not (a || b) ≡ true → c ≡ false → d ≡ true
    → (not a && not b && not c && d) ≡ true
kept-part true b c d h hs ht = cc h
kept-part false true c d h hs ht = cc h
kept-part false false true d h hs ht = cc hs
kept-part false false false d h hs ht = ht

kept_of-are_parts : (parts : List (List ℕ)) → list_all is_clean parts ≡ true
    → list_any is_dot_dot parts ≡ false → list_all is_part (kept_of parts) ≡ true
kept_of-are_parts [] h hs = refl
kept_of-are_parts (part ∷ parts) h hs =
    let clean = and_parts (is_clean part) (list_all is_clean parts) h in
    let down = or_parts (is_dot_dot part) (list_any is_dot_dot parts) hs in
    let rest : list_all is_part (kept_of parts) ≡ true = kept_of-are_parts parts clean.1 down.1 in
    elim (cases_Bool (is_kept part)) [
      | inl kept ↦ ap (list_all is_part) (cond-true (is_kept part) _ _ kept)
          ∙ and_from (is_part part) (list_all is_part (kept_of parts))
          (kept-part (is_empty part) (is_dot part) (is_dot_dot part)
          (is_clean part) kept down.0 clean.0) rest
      | inr dropped ↦ ap (list_all is_part) (cond-false (is_kept part) _ _ dropped) ∙ rest
    ]

-- the text of the parts that are kept is empty if there are none
pub kept-empty : (text : List ℕ)
    → is_empty (joined (kept_parts text)) ≡ (length (kept_parts text) == 0)
kept-empty text = go (kept_parts text) (kept_of-nonempty (slash_parts text))
  where
    go : (parts : List (List ℕ)) → list_all (λ p. not (is_empty p)) parts ≡ true
        → is_empty (joined parts) ≡ (length parts == 0)
    go [] h = refl
    go (part ∷ parts) h =
        let full : is_empty part
        ≡ false = not-true (is_empty part)
        (and_parts (not (is_empty part)) (list_all (λ p. not (is_empty p)) parts) h).0 in
        joined-nonempty part parts full
        ∙ sym (ne_eqb (length (part ∷ parts)) 0 (λ same. absurd (omega arith)))

-- and else it is a proto path
pub path_fault-kept : (text : List ℕ) → has_backslash text ≡ false
    → list_any is_dot_dot (slash_parts text) ≡ false → (length (kept_parts text) == 0) ≡ false
    → path_fault (joined (kept_parts text)) ≡ None
path_fault-kept text h hs ht =
    path_fault-joined (kept_parts text) (not_from_false (length (kept_parts text) == 0) ht)
    (kept_of-are_parts (slash_parts text) (slash_parts-clean text h) hs)

-- the last fault of a path of the host
host_cases : (a b c d : Bool) (w x y z : PathError) → a ≡ false → b ≡ false → c ≡ false → d ≡ true
    → (if a then Some w else if b then Some x else if c then Some y else if d then Some z else None)
    ≡ Some z
host_cases true b c d w x y z h hs ht hu = cc h
host_cases false true c d w x y z h hs ht hu = cc hs
host_cases false false true d w x y z h hs ht hu = cc ht
host_cases false false false true w x y z h hs ht hu = refl
host_cases false false false false w x y z h hs ht hu = cc hu

pub host_path_fault-empty : (text : List ℕ) → starts_with_slash text ≡ false
    → has_backslash text ≡ false → list_any is_dot_dot (slash_parts text) ≡ false
    → (length (kept_parts text) == 0) ≡ true → host_path_fault text ≡ Some fault.Empty
host_path_fault-empty text =
    host_cases (starts_with_slash text) (has_backslash text)
    (list_any is_dot_dot (slash_parts text))
    (length (kept_parts text) == 0) fault.Absolute fault.Backslashes fault.DotDot fault.Empty
