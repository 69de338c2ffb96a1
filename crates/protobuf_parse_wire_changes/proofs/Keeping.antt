-- Pairs that grow, and what has them by their old names.
use Rattle.std.proofs.Common.{◌≡◌, ℕ, zero, suc, ◌+◌, ◌<◌, arith, Bool, true, false, cond, List, []}
use Rattle.std.proofs.Common.{◌∷◌, ◌++◌, length}
use Rattle.std.proofs.Common.{get_or, drop, map, Option, Some, None, option_map, refl, sym, ap, ◌∙◌}
use Rattle.std.proofs.Common.{drop-cons, add-one}
use Rattle.std.specs.Prelude.{bytes_eq, find, slice_get, string_bytes, String}
use Rattle.std.specs.Borrow.{Bor}
use Rattle.std.specs.BTreeMap.{BTreeMap, UpdatesBy, get_by_text}
use Rattle.std.specs.Cmp.Lexicographic.{slice_cmp}
use Rattle.std.specs.Global.{Global}
use Rattle.std.specs.Option.{option_or}
use Rattle.std.specs.Ordering.{nat_cmp}
use Rattle.std.specs.String.{string_cmp}
use Rattle.std.proofs.lemmas.List.Folds.{find-append}
use Rattle.std.proofs.lemmas.Map.Text.{btree_map_updates_text}
use Rattle.std.proofs.lemmas.Slice.Eq.{bytes_eq-Decides}
use Rattle.protobuf_parse_model.specs.declared.descriptor.FieldDescriptorProto.{}
use Rattle.protobuf_parse_model.specs.declared.descriptor.FieldDescriptorProto.{FieldDescriptorProto}
use Rattle.protobuf_parse_model.specs.Descriptors.{Text, FileDescriptor, field_view}
use Rattle.protobuf_parse_wire_changes.specs.Kept.{PutsPartner, partner_seen}
use Rattle.protobuf_parse_wire_changes.specs.Partners.{Pair, partner_in, with_fields}
use Rattle.protobuf_parse_wire_changes.specs.Partners.{with_more, with_pair, with_types_at}

-- ---- by old names

same_bools : (a b : Bool) → (a ≡ true → b ≡ true) → (b ≡ true → a ≡ true) → a ≡ b
same_bools true true f g = refl
same_bools false false f g = refl
same_bools true false f g = sym (f refl)
same_bools false true f g = g refl

flipped : (a b : Text) → bytes_eq a b ≡ bytes_eq b a
flipped a b = same_bools (bytes_eq a b) (bytes_eq b a)
    (λ e. (bytes_eq-Decides b a).1 (sym ((bytes_eq-Decides a b).0 e)))
    (λ e. (bytes_eq-Decides a b).1 (sym ((bytes_eq-Decides b a).0 e)))

abbrev pub Seen : Option (Bor (List ℕ)) → Option Text
Seen o = option_map (λ (t : Bor (List ℕ)). t.now) o

put_absent : (o : Option (Bor (List ℕ))) (b : Bool) (x : Bor (List ℕ))
    → (b ≡ true → Seen o ≡ None)
    → Seen (cond b (Some x) o) ≡ option_or (Seen o) (cond b (Some x.now) None)
put_absent None true x absent = refl
put_absent None false x absent = refl
put_absent (Some y) true x absent = let no = absent refl in absurd (cc)
put_absent (Some y) false x absent = refl

pub partner_put : (old new : BTreeMap (String Global) (Bor (List ℕ))) (key : String Global)
    (name : Text) (x : Bor (List ℕ)) → string_bytes key ≡ name → partner_seen old name ≡ None
    → UpdatesBy string_cmp (λ k. slice_cmp nat_cmp (string_bytes key) (string_bytes k)) old new
    (Some x)
    → PutsPartner old new name x.now
partner_put old new key name x is absent updates q =
    ap Seen (btree_map_updates_text (string_bytes key) old new (Some x) updates q
    ∙ ap (λ (t : Text). cond (bytes_eq t q) (Some x) (get_by_text old q)) is
    ∙ ap (λ b. cond b (Some x) (get_by_text old q)) (flipped name q))
    ∙ put_absent (get_by_text old q) (bytes_eq q name) x
    (λ e. ap (partner_seen old) ((bytes_eq-Decides q name).0 e) ∙ absent)

-- It has a partner, so none is put.
pub partner_stays : (old : BTreeMap (String Global) (Bor (List ℕ))) (name partner first : Text)
    → partner_seen old name ≡ Some first → PutsPartner old old name partner
partner_stays old name partner first there q =
    by_test (partner_seen old q) (bytes_eq q name)
    (λ e. ap (partner_seen old) ((bytes_eq-Decides q name).0 e) ∙ there)
  where
    by_test : (o : Option Text) (b : Bool) → (b ≡ true → o ≡ Some first)
        → o ≡ option_or o (cond b (Some partner) None)
    by_test (Some y) b has = refl
    by_test None false has = refl
    by_test None true has = let no = has refl in absurd (cc)

mapped_or : (a b : Option Pair)
    → option_map (λ (p : Pair). p.new) (option_or a b)
    ≡ option_or (option_map (λ (p : Pair). p.new) a) (option_map (λ (p : Pair). p.new) b)
mapped_or None b = refl
mapped_or (Some x) b = refl

mapped_if : (b : Bool) (p : Pair)
    → option_map (λ (p : Pair). p.new) (cond b (Some p) None) ≡ cond b (Some p.new) None
mapped_if true p = refl
mapped_if false p = refl

-- one pair more
pub one_more : (ps : List Pair) (p : Pair) (name : Text)
    → partner_in (ps ++ p ∷ []) name
    ≡ option_or (partner_in ps name) (cond (bytes_eq name p.old) (Some p.new) None)
one_more ps p name =
    ap (option_map (λ (p : Pair). p.new))
    (find-append (λ (p : Pair). bytes_eq name p.old) ps (p ∷ []))
    ∙ mapped_or (find (λ (p : Pair). bytes_eq name p.old) ps)
    (cond (bytes_eq name p.old) (Some p) None)
    ∙ ap (option_or (partner_in ps name)) (mapped_if (bytes_eq name p.old) p)

-- ---- where fields lead

-- The pairs, with those to which the fields from that position on lead, are all.
pub record ToLead (old new : List FileDescriptor) (p : Pair) (pairs : List Pair) (i : ℕ)
    (xs : List FieldDescriptorProto) (all : List Pair) : Type 0 where
  pub so_far : with_fields old new p (map field_view (drop i xs)) pairs ≡ all

pub begins : (old new : List FileDescriptor) (p : Pair) (pairs : List Pair)
    (xs : List FieldDescriptorProto)
    → ToLead old new p pairs 0 xs (with_fields old new p (map field_view xs) pairs)
begins old new p pairs xs = record { so_far = refl }

-- one field more
pub goes_on : (old new : List FileDescriptor) (p : Pair) (pairs now : List Pair) (i : ℕ)
    (xs : List FieldDescriptorProto) (x : FieldDescriptorProto) (all : List Pair)
    → i < length xs → x ≡ get_or xs i x → now ≡ with_types_at old new p x.number pairs
    → ToLead old new p pairs i xs all → ToLead old new p now (i + 1) xs all
goes_on old new p pairs now i xs x all below is more left =
    let step : drop i xs ≡ x ∷ drop (i + 1) xs = rw (add-one, drop-cons xs i x, ← is) refl in
    record {
      so_far = ap (with_fields old new p (map field_view (drop (i + 1) xs))) more
          ∙ sym (ap (λ (ys : List FieldDescriptorProto).
          with_fields old new p (map field_view ys) pairs) step)
          ∙ left.so_far;
    }

-- No field is left.
pub is_done : (old new : List FileDescriptor) (p : Pair) (pairs : List Pair) (i : ℕ)
    (xs : List FieldDescriptorProto) (all : List Pair) → drop i xs ≡ []
    → ToLead old new p pairs i xs all → pairs ≡ all
is_done old new p pairs i xs all none left =
    sym (ap (λ (ys : List FieldDescriptorProto).
    with_fields old new p (map field_view ys) pairs) none) ∙ left.so_far

-- ---- pair after pair

-- The pairs, with those to which the pairs from that position on lead, are all.
pub record ToGrow (old new : List FileDescriptor) (pairs : List Pair) (at end : ℕ)
    (all : List Pair) : Type 0 where
  pub most : ℕ
  pub left : most + at ≡ end
  pub so_far : with_more old new most at pairs ≡ all

pub starts : (old new : List FileDescriptor) (pairs : List Pair) (end : ℕ)
    → ToGrow old new pairs 0 end (with_more old new end 0 pairs)
starts old new pairs end = record { most = end; left = omega arith; so_far = refl }

grows_at : (old new : List FileDescriptor) (pairs now : List Pair) (most at end : ℕ)
    (all : List Pair) → at < end → now ≡ with_pair old new (slice_get pairs at) pairs
    → most + at ≡ end → with_more old new most at pairs ≡ all
    → ToGrow old new now (at + 1) end all
grows_at old new pairs now zero at end all below more left so_far = absurd (omega arith)
grows_at old new pairs now (suc most) at end all below more left so_far = record {
  most = most;
  left = omega arith;
  so_far = ap (with_more old new most (at + 1)) more ∙ so_far;
}

-- one pair gone through
pub grows : (old new : List FileDescriptor) (pairs now : List Pair) (at end : ℕ)
    (all : List Pair) → at < end → now ≡ with_pair old new (slice_get pairs at) pairs
    → ToGrow old new pairs at end all → ToGrow old new now (at + 1) end all
grows old new pairs now at end all below more left =
    grows_at old new pairs now left.most at end all below more left.left left.so_far

ended_at : (old new : List FileDescriptor) (pairs : List Pair) (most at end : ℕ)
    (all : List Pair) → (at < end → ⊥) → most + at ≡ end
    → with_more old new most at pairs ≡ all → pairs ≡ all
ended_at old new pairs zero at end all none left so_far = so_far
ended_at old new pairs (suc most) at end all none left so_far = absurd (none (omega arith))

-- All are gone through.
pub ended : (old new : List FileDescriptor) (pairs : List Pair) (at end : ℕ) (all : List Pair)
    → (at < end → ⊥) → ToGrow old new pairs at end all → pairs ≡ all
ended old new pairs at end all none left =
    ended_at old new pairs left.most at end all none left.left left.so_far
