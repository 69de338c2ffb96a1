-- The full names of the messages and enums that the files of a set declare, each with its first
-- dot, and what is declared by it: what a field's type is where the field has a `type_name` alone
-- ("type" of FieldDescriptorProto in google/protobuf/descriptor.proto).
use Rattle.std.specs.Prelude.{ℕ, zero, suc, List, [], ◌∷◌, ◌++◌, Option, Some, None, Ok}
use Rattle.std.specs.Prelude.{bytes_eq, if◌then◌else◌}
use Rattle.protobuf_parse_model.specs.Descriptors.{Text}
use Rattle.protobuf_parse_model.specs.declared.descriptor.FieldType.{FieldType}
use Rattle.protobuf_parse_model.specs.declared.descriptor.FieldType.TheVariants as type
use Rattle.protobuf_parse_records.specs.Wire.{◌>>=◌}
use Rattle.protobuf_parse_set_reader.specs.declared.fault.SetFaultKind.TheVariants as kind
use Rattle.protobuf_parse_set_reader.specs.Answers.{Answer, fault}
use Rattle.protobuf_parse_set_reader.specs.Values.{BodyView, all_of, needed_text, numbered, one}
use Rattle.protobuf_parse_set_reader.specs.Values.{part_in, parts, text_in}

-- a full name, and whether it is a message's or an enum's
pub record TypeName : Type 0 where
  pub name : Text
  pub type_ : FieldType

-- '.'
abbrev pub dot : ℕ
dot = 46

-- a name in a scope
abbrev pub within : Text → Text → Text
within scope name = scope ++ dot ∷ name

-- the scope of a file, by its package
abbrev pub package_scope : Option Text → Text
package_scope None = []
package_scope (Some []) = []
package_scope (Some (c ∷ cs)) = dot ∷ c ∷ cs

-- an EnumDescriptorProto, in that scope
unfoldable pub enum_name : Text → BodyView → Answer TypeName
enum_name scope b = do
  name ← needed_text kind.NoName 1 b
  Ok (record { name = within scope name; type_ = type.Enum })

-- a DescriptorProto in that scope, with what is said of the messages inside it, by their scope
unfoldable pub names_around : (Text → BodyView → Answer (List TypeName)) → Text → BodyView
    → Answer (List TypeName)
names_around inside scope b = do
  name ← needed_text kind.NoName 1 b
  nested ← all_of (part_in (inside (within scope name))) (numbered 3 b.records)
  enums ← parts (enum_name (within scope name)) 4 b
  Ok (record { name = within scope name; type_ = type.Message } ∷ nested ++ enums)

-- the same, with at most so many levels of messages, itself one
unfoldable pub message_names : ℕ → Text → BodyView → Answer (List TypeName)
message_names zero scope b = fault b.start kind.TooDeep
message_names (suc levels) scope b = names_around (message_names levels) scope b

-- a FileDescriptorProto
unfoldable pub file_names : BodyView → Answer (List TypeName)
file_names b = do
  «package» ← one text_in 2 b
  messages ← all_of (part_in (message_names 100 (package_scope «package»)))
      (numbered 4 b.records)
  enums ← parts (enum_name (package_scope «package»)) 5 b
  Ok (messages ++ enums)

-- a FileDescriptorSet
abbrev pub set_names : BodyView → Answer (List TypeName)
set_names b = all_of (part_in file_names) (numbered 1 b.records)

-- what is declared by a full name
abbrev pub Types : Type 0
Types = Text → Option FieldType

-- what is declared by that name, if anything is; of several the first
abbrev pub type_named : List TypeName → Types
type_named [] name = None
type_named (t ∷ ts) name = if bytes_eq t.name name then Some t.type_ else type_named ts name

-- what the files of a set declare
abbrev pub set_types : BodyView → Answer Types
set_types b = do
  names ← set_names b
  Ok (type_named names)
