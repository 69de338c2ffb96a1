-- Fields that go on behind others.
use Rattle.std.proofs.Common.{◌≡◌, List, [], ◌∷◌, ◌++◌, Option, Some, None, refl, sym, ap}
use Rattle.std.proofs.Common.{option_map, append_assoc}
use Rattle.protobuf_parse_model.specs.Descriptors.{FieldDescriptor}
use Rattle.protobuf_parse_name_rules.specs.Fields.{field_and}

-- such fields, if there are any
abbrev pub behind : List FieldDescriptor → Option (List FieldDescriptor)
    → Option (List FieldDescriptor)
behind xs fields = option_map (λ (ys : List FieldDescriptor). xs ++ ys) fields

-- none stand before the first
pub behind-none : (o : Option (List FieldDescriptor)) → o ≡ behind [] o
behind-none None = refl
behind-none (Some ys) = refl

-- one of them is among those before
pub behind-one : (xs : List FieldDescriptor) (f : FieldDescriptor)
    (o : Option (List FieldDescriptor))
    → behind xs (field_and f o) ≡ behind (xs ++ f ∷ []) o
behind-one xs f None = refl
behind-one xs f (Some ys) = ap Some (sym (append_assoc xs (f ∷ []) ys))
