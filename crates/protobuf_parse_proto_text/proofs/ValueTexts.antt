-- The values of custom options, one level deep.
use Rattle.std.proofs.Common.{◌≡◌, List, [], ◌∷◌, ◌++◌, ap, flat_map, refl}
use Rattle.std.specs.Prelude.{codes}
use Rattle.protobuf_parse_model.specs.Descriptors.{FileDescriptor, Text}
use Rattle.protobuf_parse_wire.specs.Trees.{Field, fields_of_list}
use Rattle.protobuf_parse_proto_text.specs.Items.{inner_name, inner_text, inner_type, value_text}

-- a field of a message of that name
abbrev pub field_text : List FileDescriptor → (of : Text) → Field → Text
field_text files of f =
    codes " " ++ inner_name files of f.number ++ codes ": "
    ++ value_text files (inner_type files of f.number) f.value

pub inner_text_is : (files : List FileDescriptor) (of : Text) (fs : List Field)
    → inner_text files of (fields_of_list fs) ≡ flat_map (field_text files of) fs
inner_text_is files of [] = refl
inner_text_is files of (f ∷ fs) =
    ap (λ t. field_text files of f ++ t) (inner_text_is files of fs)
