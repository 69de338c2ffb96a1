-- What bytes of custom options are read as: the law between what statements denote and the reader.
use Rattle.std.specs.Prelude.{◌≡◌, ℕ, ℤ, ◌<◌, ◌≤◌, ◌^◌, List, [], ◌∷◌, ◌++◌, length, Some, Ok}
use Rattle.std.specs.Prelude.{IsTrue}
use Rattle.std.specs.Int.{w32}
use Rattle.std.specs.Int.RustNames.{FitsSigned}
use Rattle.protobuf_parse_syntax.specs.Trees.{OptionSyntax}
use Rattle.protobuf_parse_model.specs.declared.descriptor.FieldType.TheVariants as types
use Rattle.protobuf_parse_model.specs.Descriptors.{Text, FileDescriptor, FieldDescriptor}
use Rattle.protobuf_parse_model.specs.Descriptors.{MessageParts}
use Rattle.protobuf_parse_model.specs.Faults.{Among}
use Rattle.protobuf_parse_model.specs.declared.customs.Construct.{Construct}
use Rattle.protobuf_parse_wire.specs.Wire.{Spells}
use Rattle.protobuf_parse_wire.specs.Declarations.{messages_with_name, extensions_extending}
use Rattle.protobuf_parse_wire.specs.Declarations.{have_distinct_numbers}
use Rattle.protobuf_parse_wire.specs.Reading.{reader}
use Rattle.protobuf_parse_wire.specs.Law.{said, depth}
use Rattle.protobuf_parse_options.specs.OptionFields.{OptionScope, options_message}
use Rattle.protobuf_parse_options.specs.OptionFields.{fields_of_message}
use Rattle.protobuf_parse_options.specs.OptionFields.{number_of_value}
use Rattle.protobuf_parse_options.specs.CustomOptions.{denotes}
use Rattle.protobuf_parse_options.specs.CustomFaults.{custom_statement_faults}

-- The message is declared once, and no two of its fields and extensions have one number.
pub record IsEntered (files : List FileDescriptor) (name : Text) : Type 0 where
  pub parts : MessageParts
  pub once : messages_with_name files name ≡ parts ∷ []
  pub distinct : IsTrue (have_distinct_numbers (parts.field ++ extensions_extending files name))

-- the fields of the message and the extensions of it
abbrev pub fields_at : List FileDescriptor → Text → List FieldDescriptor
fields_at files name = fields_of_message files name ++ extensions_extending files name

-- The numbers of the values of enums have 32 bits, as those of every descriptor have.
abbrev pub HasSmallValues : List FileDescriptor → Type 0
HasSmallValues files = (enum_name name : Text) (z : ℤ)
    → number_of_value files enum_name name ≡ Some z → FitsSigned w32 z

-- The files that are seen are among those that are reached, and in these stands, once and with
-- distinct numbers, each message that a field holds.
pub record IsReadable (at : OptionScope) : Type 0 where
  pub small : HasSmallValues at.files
  pub seen : (file : FileDescriptor) → Among at.visible file → Among at.files file
  pub held : (message : Text) (f : FieldDescriptor) → Among (fields_at at.files message) f
      → f.type_ ≡ types.Message → (name : Text) × (f.type_name ≡ Some name)
      × IsEntered at.files name

-- Where no fault stands in the custom options of a construct, bytes that spell what they denote are
-- read as the numbers and values of it, by the options message of the construct.
abbrev pub OptionsAreRead : Type 0
OptionsAreRead =
    (at : OptionScope) (construct : Construct) (os : List OptionSyntax) (bs : List ℕ)
    → IsReadable at
    → IsEntered at.files (options_message construct)
    → custom_statement_faults at construct os ≡ []
    → depth (denotes at construct os) ≤ 256
    → length bs < 2 ^ 64
    → Spells (denotes at construct os) bs
    → reader at.files (options_message construct) bs ≡ Ok (said (denotes at construct os))
