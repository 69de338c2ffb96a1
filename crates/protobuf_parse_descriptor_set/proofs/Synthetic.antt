-- Which oneofs are synthetic, with one field more.
use Rattle.std.proofs.Common.{◌≡◌, ◌∙◌, ℕ, ◌+◌, ◌<◌, ℤ, pos, negsuc, Bool, true, false, not, List}
use Rattle.std.proofs.Common.{[], inl, inr, append-nil, ◌∷◌, ◌++◌, length, get_or, set, take, map}
use Rattle.std.proofs.Common.{ap, sym, refl, arith, subst}
use Rattle.std.specs.Prelude.{◌==◌, nat_lt, if◌then◌else◌, Option, Some, None, ◌≢◌}
use Rattle.std.proofs.lemmas.Bool.{ltb-true, ltb-false, eq-eqb, ne_eqb}
use Rattle.std.proofs.lemmas.Bool.Decides.{eqb_tells}
use Rattle.std.proofs.lemmas.List.{length-set, take_more, map-append, get_or-set_other}
use Rattle.std.proofs.lemmas.List.Elements.{filter-append}
use Rattle.std.proofs.lemmas.Grind.{get_or-set_at}
use Rattle.protobuf_parse_model.specs.Descriptors.{FieldDescriptor, field_view}
use Rattle.protobuf_parse_model.specs.declared.descriptor.FieldDescriptorProto.{FieldDescriptorProto}
use Rattle.protobuf_parse_descriptor_set.specs.OneofOrder.{is_index, is_member, members}
use Rattle.protobuf_parse_descriptor_set.specs.OneofOrder.{is_one_optional, is_synthetic}
use Rattle.protobuf_parse_descriptor_set.specs.Told.{Tells, index_among, are_any, has_members}

-- ---- a list that tells

tells_at : {X : Type 0} (f g : ℕ → X) (n index : ℕ) (xs : List X) (v : X) → index < n → Tells f n xs
    → v ≡ g index → ((j : ℕ) → j ≢ index → g j ≡ f j) → (i : ℕ) (d : X) → i < n
    → get_or (set xs index v) i d ≡ g i
tells_at f g n index xs v lt t here others i d h =
    elim (eqb_tells i index) [
      | inl same ↦ get_or-set_at xs index i v d same.1 (omega (arith, t.count))
          ∙ here ∙ ap g (sym same.1)
      | inr other ↦ get_or-set_other xs index i v d other.1 ∙ t.each i d h ∙ sym (others i other.1)
    ]

tells_set : {X : Type 0} (f g : ℕ → X) (n index : ℕ) (xs : List X) (v : X) → index < n
    → Tells f n xs → v ≡ g index → ((j : ℕ) → j ≢ index → g j ≡ f j) → Tells g n (set xs index v)
tells_set f g n index xs v lt t here others = record {
  count = length-set xs index v ∙ t.count;
  each = tells_at f g n index xs v lt t here others;
}

tells_alike : {X : Type 0} (f g : ℕ → X) (n : ℕ) (xs : List X) → Tells f n xs
    → ((j : ℕ) → j < n → g j ≡ f j) → Tells g n xs
tells_alike f g n xs t alike = record {
  count = t.count;
  each = λ i d h. t.each i d h ∙ sym (alike i h);
}

-- ---- one field more

members-more : (fs : List FieldDescriptor) (f : FieldDescriptor) (j : ℕ)
    → members (fs ++ f ∷ []) j
    ≡ members fs j ++ (if is_member j f then f ∷ [] else [])
members-more fs f j = filter-append (is_member j) fs (f ∷ [])

others_stay : (fs : List FieldDescriptor) (f : FieldDescriptor) (j : ℕ) → is_member j f ≡ false
    → members (fs ++ f ∷ []) j ≡ members fs j
others_stay fs f j out = members-more fs f j
    ∙ ap (λ b. members fs j ++ (if b then f ∷ [] else [])) out ∙ append-nil (members fs j)

one_more : (fs : List FieldDescriptor) (f : FieldDescriptor) (j : ℕ) → is_member j f ≡ true
    → members (fs ++ f ∷ []) j ≡ members fs j ++ f ∷ []
one_more fs f j is = members-more fs f j
    ∙ ap (λ b. members fs j ++ (if b then f ∷ [] else [])) is

both_ways : (b v : Bool) → v ≡ (if b then true else false) → v ≡ b
both_ways true v e = e
both_ways false v e = e

never : (b v : Bool) → v ≡ (if b then false else false) → v ≡ false
never true v e = e
never false v e = e

one_optional_more : (ms : List FieldDescriptor) (f : FieldDescriptor) (v : Bool)
    → v ≡ (if f.proto3_optional then not (are_any ms) else false)
    → v ≡ is_one_optional (ms ++ f ∷ [])
one_optional_more [] f v e = both_ways f.proto3_optional v e
one_optional_more (m ∷ []) f v e = never f.proto3_optional v e
one_optional_more (m ∷ n ∷ ms) f v e = never f.proto3_optional v e

any_more : {X : Type 0} (xs : List X) (x : X) → true ≡ are_any (xs ++ x ∷ [])
any_more [] x = refl
any_more (y ∷ ys) x = refl

-- ---- the index that a field says

-- It is one of the indices, and no other is.
record SaysIndex (count index : ℕ) (o : Option ℤ) : Type 0 where
  within : index < count
  here : is_index index o ≡ true
  others : (j : ℕ) → j ≢ index → is_index j o ≡ false

says_this : (count index i : ℕ) (b : Bool) → nat_lt i count ≡ b
    → (if b then Some i else None) ≡ Some index → SaysIndex count index (Some (pos i))
says_this count index i false lt e = absurd cc
says_this count index i true lt e =
    let same : i ≡ index = cc in
    record {
      within = subst (λ z. z < count) same (ltb-true i count lt);
      here = eq-eqb i index same;
      others = λ j other. ne_eqb i j (λ h. other (sym h ∙ same));
    }

says_index : (count index : ℕ) (o : Option ℤ) → index_among count o ≡ Some index
    → SaysIndex count index o
says_index count index None e = absurd cc
says_index count index (Some (pos i)) e = says_this count index i (nat_lt i count) refl e
says_index count index (Some (negsuc i)) e = absurd cc

says_no_index : (count i : ℕ) (b : Bool) → nat_lt i count ≡ b
    → (if b then Some i else None) ≡ None → (j : ℕ) → j < count → (i == j) ≡ false
says_no_index count i true lt e j h = absurd cc
says_no_index count i false lt e j h =
    ne_eqb i j (λ same. absurd (omega (arith, ltb-false i count lt)))

says_none : (count : ℕ) (o : Option ℤ) → index_among count o ≡ None → (j : ℕ) → j < count
    → is_index j o ≡ false
says_none count None e j h = refl
says_none count (Some (pos i)) e j h = says_no_index count i (nat_lt i count) refl e j h
says_none count (Some (negsuc i)) e j h = refl

-- ---- what both lists tell then

-- of so many oneofs, whether each is synthetic, and whether it has members
pub record TellsMembers (fs : List FieldDescriptor) (count : ℕ)
    (made any : List Bool) : Type 0 where
  pub synthetic : Tells (is_synthetic fs) count made
  pub members : Tells (has_members fs) count any

pub no_member_more : (fs : List FieldDescriptor) (f : FieldDescriptor) (count : ℕ)
    (made any : List Bool) → index_among count f.oneof_index ≡ None
    → TellsMembers fs count made any → TellsMembers (fs ++ f ∷ []) count made any
no_member_more fs f count made any none t =
    let stays : (j : ℕ) → j < count → members (fs ++ f ∷ []) j ≡ members fs j =
    λ j h. others_stay fs f j (says_none count f.oneof_index none j h) in
    record {
      synthetic = tells_alike _ _ count made t.synthetic (λ j h. ap is_one_optional (stays j h));
      members = tells_alike _ _ count any t.members (λ j h. ap are_any (stays j h));
    }

member_more : (fs : List FieldDescriptor) (f : FieldDescriptor) (count index : ℕ)
    (made any : List Bool) (v d : Bool) → index_among count f.oneof_index ≡ Some index
    → TellsMembers fs count made any
    → v ≡ (if f.proto3_optional then not (get_or any index d) else false)
    → TellsMembers (fs ++ f ∷ []) count (set made index v) (set any index true)
member_more fs f count index made any v d says t is =
    let s = says_index count index f.oneof_index says in
    let stays : (j : ℕ) → j ≢ index → members (fs ++ f ∷ []) j ≡ members fs j =
    λ j h. others_stay fs f j (s.others j h) in
    let more : members (fs ++ f ∷ []) index ≡ members fs index ++ f ∷ [] =
    one_more fs f index s.here in
    let had : get_or any index d ≡ are_any (members fs index) = t.members.each index d s.within in
    record {
      synthetic = tells_set _ _ count index made v s.within t.synthetic
          (one_optional_more (members fs index) f v
          (is ∙ ap (λ b. if f.proto3_optional then not b else false) had)
          ∙ ap is_one_optional (sym more)) (λ j h. ap is_one_optional (stays j h));
      members = tells_set _ _ count index any true s.within t.members
          (any_more (members fs index) f ∙ ap are_any (sym more))
          (λ j h. ap are_any (stays j h));
    }

pub optional_more : (fs : List FieldDescriptor) (f : FieldDescriptor) (count index : ℕ)
    (made any : List Bool) (v d : Bool) → index_among count f.oneof_index ≡ Some index
    → TellsMembers fs count made any → f.proto3_optional ≡ true → v ≡ not (get_or any index d)
    → TellsMembers (fs ++ f ∷ []) count (set made index v) (set any index true)
optional_more fs f count index made any v d says t yes_it_is is =
    member_more fs f count index made any v d says t
    (is ∙ sym (ap (λ b. if b then not (get_or any index d) else false) yes_it_is))

pub other_more : (fs : List FieldDescriptor) (f : FieldDescriptor) (count index : ℕ)
    (made any : List Bool) (v : Bool) → index_among count f.oneof_index ≡ Some index
    → TellsMembers fs count made any → f.proto3_optional ≡ false → v ≡ f.proto3_optional
    → TellsMembers (fs ++ f ∷ []) count (set made index v) (set any index true)
other_more fs f count index made any v says t it_is_not is =
    member_more fs f count index made any v false says t
    (is ∙ it_is_not ∙ sym (ap (λ b. if b then not (get_or any index false) else false) it_is_not))

-- of the fields up to the next
pub fields_more : (fields : List FieldDescriptorProto) (k : ℕ) (f : FieldDescriptorProto)
    → k < length fields → f ≡ get_or fields k f
    → map field_view (take (k + 1) fields) ≡ map field_view (take k fields) ++ field_view f ∷ []
fields_more fields k f lt is = ap (map field_view) (take_more fields k f lt)
    ∙ map-append field_view (take k fields) (get_or fields k f ∷ [])
    ∙ ap (λ z. map field_view (take k fields) ++ field_view z ∷ []) (sym is)
