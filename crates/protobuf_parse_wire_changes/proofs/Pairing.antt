-- Each message that goes with one is declared.
use Rattle.std.proofs.Common.{◌≡◌, ℕ, zero, suc, ◌+◌, Bool, true, false, cond, List, [], ◌∷◌}
use Rattle.std.proofs.Common.{◌++◌, length, Option, Some, None, option_map, refl, subst}
use Rattle.std.specs.Prelude.{◌&&◌, find, not, bytes_eq, slice_get}
use Rattle.std.specs.List.{flat_map, AllByRecursion}
use Rattle.protobuf_parse_model.specs.Descriptors.{Text, FileDescriptor, FieldDescriptor}
use Rattle.protobuf_parse_model.specs.Descriptors.{MessageDescriptor}
use Rattle.protobuf_parse_index.specs.Lookups.{message_named}
use Rattle.protobuf_parse_index.specs.Walk.{Standing, all_messages}
use Rattle.protobuf_parse_wire_changes.specs.Partners.{Pair, declares, fields_of, has_partner}
use Rattle.protobuf_parse_wire_changes.specs.Partners.{pairs, partner, partner_in, same_names}
use Rattle.protobuf_parse_wire_changes.specs.Partners.{type_at, with_fields, with_itself}
use Rattle.protobuf_parse_wire_changes.specs.Partners.{with_message, with_messages, with_more}
use Rattle.protobuf_parse_wire_changes.specs.Partners.{with_pair, with_types, with_types_at}

both : (a b : Bool) → (a && b) ≡ true → (a ≡ true) × (b ≡ true)
both true b e = (refl, e)
both false b e = absurd (cc)

module _ (old new : List FileDescriptor) where
  -- the new message of the pair is declared
  abbrev IsDeclared : Pair → Type 0
  IsDeclared p = declares new p.new ≡ true

  abbrev AreDeclared : List Pair → Type 0
  AreDeclared ps = AllByRecursion IsDeclared ps

  joined : (xs ys : List Pair) → AreDeclared xs → AreDeclared ys → AreDeclared (xs ++ ys)
  joined [] ys a b = b
  joined (x ∷ xs) ys a b = (a.0, joined xs ys a.1 b)

  itself : (m : Standing MessageDescriptor) → AreDeclared (with_itself new m)
  itself m = by_test (declares new m.name) refl
    where
      by_test : (b : Bool) → declares new m.name ≡ b
          → AreDeclared (cond b (record { old = m.name; new = m.name } ∷ []) [])
      by_test true e = (e, tt)
      by_test false e = tt

  of_one_name : (ms : List (Standing MessageDescriptor))
      → AreDeclared (flat_map (with_itself new) ms)
  of_one_name [] = tt
  of_one_name (m ∷ ms) =
      joined (with_itself new m) (flat_map (with_itself new) ms) (itself m) (of_one_name ms)

  by_messages : (o n : Text) (ps : List Pair) → AreDeclared ps
      → AreDeclared (with_messages old new o n ps)
  by_messages o n ps all =
      by_test (not (has_partner ps o) && declares old o && declares new n) refl
    where
      by_test : (t : Bool)
          → (not (has_partner ps o) && declares old o && declares new n) ≡ t
          → AreDeclared (cond t (ps ++ record { old = o; new = n } ∷ []) ps)
      by_test true e =
          joined ps (record { old = o; new = n } ∷ []) all
          ((both (not (has_partner ps o) && declares old o) (declares new n) e).1, tt)
      by_test false e = all

  by_types : (o n : Option Text) (ps : List Pair) → AreDeclared ps
      → AreDeclared (with_types old new o n ps)
  by_types None n ps all = all
  by_types (Some a) None ps all = all
  by_types (Some a) (Some b) ps all = by_messages a b ps all

  by_fields : (p : Pair) (fs : List FieldDescriptor) (ps : List Pair) → AreDeclared ps
      → AreDeclared (with_fields old new p fs ps)
  by_fields p [] ps all = all
  by_fields p (f ∷ fs) ps all =
      by_fields p fs (with_types_at old new p f.number ps)
      (by_types (type_at old p.old f.number) (type_at new p.new f.number) ps all)

  by_message : (p : Pair) (o : Option (Standing MessageDescriptor)) (ps : List Pair)
      → AreDeclared ps → AreDeclared (with_message old new p o ps)
  by_message p None ps all = all
  by_message p (Some m) ps all = by_fields p (fields_of m) ps all

  by_pair : (o : Option Pair) (ps : List Pair) → AreDeclared ps
      → AreDeclared (with_pair old new o ps)
  by_pair None ps all = all
  by_pair (Some p) ps all = by_message p (message_named old p.old) ps all

  more : (most at : ℕ) (ps : List Pair) → AreDeclared ps
      → AreDeclared (with_more old new most at ps)
  more zero at ps all = all
  more (suc most) at ps all =
      more most (at + 1) (with_pair old new (slice_get ps at) ps)
      (by_pair (slice_get ps at) ps all)

  one_of : (name b : Text) (ps : List Pair) → AreDeclared ps
      → partner_in ps name ≡ Some b → declares new b ≡ true
  one_of name b [] all h = absurd (cc)
  one_of name b (p ∷ ps) all h =
      by_test (bytes_eq name p.old) (λ e. one_of name b ps all.1 e) h
    where
      by_test : (t : Bool)
          → (partner_in ps name ≡ Some b → declares new b ≡ true)
          → option_map (λ (p : Pair). p.new)
          (cond t (Some p) (find (λ (p : Pair). bytes_eq name p.old) ps)) ≡ Some b
          → declares new b ≡ true
      by_test true later e =
          let same : p.new ≡ b = cc in subst (λ (x : Text). declares new x ≡ true) same all.0
      by_test false later e = later e

  pub partner_declared : (a b : Text) → partner old new a ≡ Some b → declares new b ≡ true
  partner_declared a b h =
      one_of a b (pairs old new)
      (more (length (all_messages old)) 0 (same_names old new) (of_one_name (all_messages old))) h
