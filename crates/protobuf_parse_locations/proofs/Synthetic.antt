-- Which oneofs are synthetic, with one field more; and those that are written, one by one.
use Rattle.std.proofs.Common.{◌≡◌, ◌∙◌, ℕ, ◌+◌, ◌<◌, ℤ, pos, negsuc, Bool, true, false, List, []}
use Rattle.std.proofs.Common.{◌∷◌, ◌++◌, inl, inr, length, get_or, set, take, map, ap, sym, refl}
use Rattle.std.proofs.Common.{arith, subst}
use Rattle.std.specs.Prelude.{◌==◌, ◌&&◌, ◌||◌, nat_lt, if◌then◌else◌, Option, Some, None, ◌≢◌}
use Rattle.std.proofs.lemmas.Bool.{ltb-true, ltb-false, eq-eqb, ne_eqb}
use Rattle.std.proofs.lemmas.Bool.Decides.{eqb_tells}
use Rattle.std.proofs.lemmas.List.{length-set, take_more, map-append, get_or-set_other}
use Rattle.std.proofs.lemmas.List.Folds.{list_any-append}
use Rattle.std.proofs.lemmas.Grind.{get_or-set_at}
use Rattle.protobuf_parse_model.specs.Descriptors.{FieldDescriptor, OneofDescriptor, field_view}
use Rattle.protobuf_parse_model.specs.declared.descriptor.FieldDescriptorProto.{FieldDescriptorProto}
use Rattle.protobuf_parse_locations.specs.Declarations.{is_index, is_synthetic, written}
use Rattle.protobuf_parse_locations.specs.Marks.{Marks, below, index_among}

-- ---- one field more

-- whether a field says that the oneof at an index is synthetic
abbrev says : FieldDescriptor → ℕ → Bool
says f j = f.proto3_optional && is_index j f.oneof_index

or_false : (b : Bool) → (b || false) ≡ b
or_false true = refl
or_false false = refl

or_true : (b : Bool) → (b || true) ≡ true
or_true true = refl
or_true false = refl

none_more : (fs : List FieldDescriptor) (f : FieldDescriptor) (j : ℕ) → says f j ≡ false
    → is_synthetic (fs ++ f ∷ []) j ≡ is_synthetic fs j
none_more fs f j none =
    list_any-append (λ (g : FieldDescriptor). says g j) fs (f ∷ [])
    ∙ ap (λ (b : Bool). is_synthetic fs j || (b || false)) none ∙ or_false (is_synthetic fs j)

one_more : (fs : List FieldDescriptor) (f : FieldDescriptor) (j : ℕ) → says f j ≡ true
    → is_synthetic (fs ++ f ∷ []) j ≡ true
one_more fs f j here =
    list_any-append (λ (g : FieldDescriptor). says g j) fs (f ∷ [])
    ∙ ap (λ (b : Bool). is_synthetic fs j || (b || false)) here ∙ or_true (is_synthetic fs j)

-- ---- the index that a field says

-- It is one of the indices, and no other is.
record SaysIndex (count index : ℕ) (b : Bool) (o : Option ℤ) : Type 0 where
  within : index < count
  here : (b && is_index index o) ≡ true
  others : (j : ℕ) → j ≢ index → (b && is_index j o) ≡ false

says_this : (count index i : ℕ) (b : Bool) → nat_lt i count ≡ b
    → (if b then Some i else None) ≡ Some index → SaysIndex count index true (Some (pos i))
says_this count index i false lt e = absurd cc
says_this count index i true lt e =
    let same : i ≡ index = cc in
    record {
      within = subst (λ z. z < count) same (ltb-true i count lt);
      here = eq-eqb i index same;
      others = λ j other. ne_eqb i j (λ h. other (sym h ∙ same));
    }

says_index : (count index : ℕ) (b : Bool) (o : Option ℤ)
    → (if b then below count o else None) ≡ Some index → SaysIndex count index b o
says_index count index false o e = absurd cc
says_index count index true None e = absurd cc
says_index count index true (Some (pos i)) e = says_this count index i (nat_lt i count) refl e
says_index count index true (Some (negsuc i)) e = absurd cc

says_no_index : (count i : ℕ) (b : Bool) → nat_lt i count ≡ b
    → (if b then Some i else None) ≡ None → (j : ℕ) → j < count → (i == j) ≡ false
says_no_index count i true lt e j h = absurd cc
says_no_index count i false lt e j h =
    ne_eqb i j (λ same. absurd (omega (arith, ltb-false i count lt)))

says_none : (count : ℕ) (b : Bool) (o : Option ℤ) → (if b then below count o else None) ≡ None
    → (j : ℕ) → j < count → (b && is_index j o) ≡ false
says_none count false o e j h = refl
says_none count true None e j h = refl
says_none count true (Some (pos i)) e j h = says_no_index count i (nat_lt i count) refl e j h
says_none count true (Some (negsuc i)) e j h = refl

-- ---- the marks then

pub marks_alike : (fs : List FieldDescriptor) (f : FieldDescriptor) (count : ℕ)
    (marks : List Bool) → index_among count f ≡ None → Marks (is_synthetic fs) count marks
    → Marks (is_synthetic (fs ++ f ∷ [])) count marks
marks_alike fs f count marks none m = record {
  count = m.count;
  each = λ i d h. m.each i d h
      ∙ sym (none_more fs f i (says_none count f.proto3_optional f.oneof_index none i h));
}

pub marks_one : (fs : List FieldDescriptor) (f : FieldDescriptor) (count index : ℕ)
    (marks : List Bool) → index_among count f ≡ Some index
    → Marks (is_synthetic fs) count marks
    → Marks (is_synthetic (fs ++ f ∷ [])) count (set marks index true)
marks_one fs f count index marks one m =
    let s = says_index count index f.proto3_optional f.oneof_index one in
    let lt : index < length marks = subst (λ z. index < z) (sym m.count) s.within in
    record {
      count = length-set marks index true ∙ m.count;
      each = λ i d h.
          elim (eqb_tells i index) [
            | inl same ↦ get_or-set_at marks index i true d same.1 lt
                ∙ sym (ap (is_synthetic (fs ++ f ∷ [])) same.1 ∙ one_more fs f index s.here)
            | inr other ↦ get_or-set_other marks index i true d other.1 ∙ m.each i d h
                ∙ sym (none_more fs f i (s.others i other.1))
          ];
    }

pub index_within : (count index : ℕ) (f : FieldDescriptor) → index_among count f ≡ Some index
    → index < count
index_within count index f one =
    (says_index count index f.proto3_optional f.oneof_index one).within

-- of the fields up to the next
pub fields_more : (fields : List FieldDescriptorProto) (k : ℕ) (f : FieldDescriptorProto)
    → k < length fields → f ≡ get_or fields k f
    → map field_view (take (k + 1) fields) ≡ map field_view (take k fields) ++ field_view f ∷ []
fields_more fields k f lt is = ap (map field_view) (take_more fields k f lt)
    ∙ map-append field_view (take k fields) (get_or fields k f ∷ [])
    ∙ ap (λ z. map field_view (take k fields) ++ field_view z ∷ []) (sym is)

-- ---- those that are written

pub written_not : (fs : List FieldDescriptor) (at : ℕ) (o : OneofDescriptor)
    (os : List OneofDescriptor) → is_synthetic fs at ≡ true
    → written fs at (o ∷ os) ≡ written fs (at + 1) os
written_not fs at o os is =
    ap (λ (b : Bool). if b then written fs (at + 1) os else o ∷ written fs (at + 1) os) is

pub written_one : (fs : List FieldDescriptor) (at : ℕ) (o : OneofDescriptor)
    (os : List OneofDescriptor) → is_synthetic fs at ≡ false
    → written fs at (o ∷ os) ≡ o ∷ written fs (at + 1) os
written_one fs at o os is =
    ap (λ (b : Bool). if b then written fs (at + 1) os else o ∷ written fs (at + 1) os) is
