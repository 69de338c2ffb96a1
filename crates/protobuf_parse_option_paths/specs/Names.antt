-- Which fields the name of an option leads through.
--
-- A name of one part without parentheses is that of a built-in option. Any other begins at the
-- options message of the construct, and each part goes on from a message: one without parentheses
-- means the field of that name, one in parentheses an extension of the message, looked up from the
-- scope outward, as names of types are; the next part goes on from the message that the field
-- holds. Protocol Buffers Language Guide (proto2), "Custom Options" (https://protobuf.dev).
use Rattle.std.specs.Prelude.{ℕ, nat_abs, Bool, true, false, List, [], ◌∷◌, codes, bytes_eq, find}
use Rattle.std.specs.Prelude.{Option, Some, None, option_map, unwrap_or, if◌then◌else◌}
use Rattle.std.specs.Option.{option_and_then}
use Rattle.protobuf_parse_syntax.specs.Trees.{OptionPartSyntax, direct, extension}
use Rattle.protobuf_parse_syntax.specs.Trees.{OptionNameSyntax, builtin, custom}
use Rattle.protobuf_parse_syntax.specs.declared.tree.field.Label.{Label}
use Rattle.protobuf_parse_syntax.specs.declared.tree.field.Label.TheVariants.{Optional, Required}
use Rattle.protobuf_parse_syntax.specs.declared.tree.field.Label.TheVariants.{Repeated}
use Rattle.protobuf_parse_model.specs.Descriptors.{Text, FileDescriptor, FieldDescriptor}
use Rattle.protobuf_parse_model.specs.Descriptors.{MessageDescriptor, parts_seen}
use Rattle.protobuf_parse_model.specs.Declarations.{Scope, Declared}
use Rattle.protobuf_parse_model.specs.Lookup.{Meanings, meant}
use Rattle.protobuf_parse_model.specs.declared.customs.Construct.{Construct}
use Rattle.protobuf_parse_model.specs.declared.customs.Construct.TheVariants as of
use Rattle.protobuf_parse_wire.specs.Declarations.{extends}
use Rattle.protobuf_parse_index.specs.Walk.{Standing}
use Rattle.protobuf_parse_index.specs.Lookups.{extension_named, message_named}
use Rattle.protobuf_parse_option_paths.specs.Numbers.{builtin_number}
use Rattle.protobuf_parse_option_paths.specs.declared.names.Step.{Step}

-- the descriptors of the files that a file reaches, whose messages fields may hold, and which of
-- them, by their paths, it sees: its options may name the extensions of these
pub record Files : Type 0 where
  pub reached : List FileDescriptor
  pub sees : (path : Text) → Bool

-- ---- fields

-- an extension of that full name, if its file is seen
abbrev pub if_seen : Files → (name : Text) → Standing FieldDescriptor
    → Option (Declared FieldDescriptor)
if_seen files name s =
    if files.sees s.file then Some (record { name = name; what = s.what }) else None

-- the extension of a full name: the first of the name, if its file is seen
abbrev pub extensions : Files → Meanings FieldDescriptor
extensions files name =
    option_and_then (if_seen files name) (extension_named files.reached name)

-- the extension that a name means in the scope
abbrev pub extension_meant : Files → Scope → Text → Option (Declared FieldDescriptor)
extension_meant files scope name = meant (extensions files) scope name

-- an extension, if it is one of the message
abbrev pub if_extends : (message : Text) → FieldDescriptor → Option FieldDescriptor
if_extends message f = if extends message f then Some f else None

-- the first of the fields that has the name
abbrev pub field_called : Text → List FieldDescriptor → Option FieldDescriptor
field_called name fields = find (λ (f : FieldDescriptor). bytes_eq name f.name) fields

-- the field of that name of the message of that full name
abbrev pub field_named : List FileDescriptor → (message name : Text) → Option FieldDescriptor
field_named reached message name =
    option_and_then
    (λ (m : Standing MessageDescriptor). field_called name (parts_seen m.what).field)
    (message_named reached message)

-- the field of the message that a part of a name means
abbrev pub part_field : Files → Scope → (message : Text) → OptionPartSyntax
    → Option FieldDescriptor
part_field files scope message (direct name) = field_named files.reached message name
part_field files scope message (extension name) =
    option_and_then (λ (d : Declared FieldDescriptor). if_extends message d.what)
    (extension_meant files scope name)

-- the full name of the message that a field holds
abbrev pub type_name_of : FieldDescriptor → Text
type_name_of f = unwrap_or f.type_name []

-- ---- steps

-- whether the label is that of a repeated field, as a map is one too
abbrev pub is_repeated : Label → Bool
is_repeated Optional = false
is_repeated Required = false
is_repeated Repeated = true

-- a field, as a step of a path
abbrev pub step_of : FieldDescriptor → Step
step_of f = record { number = nat_abs f.number; repeated = is_repeated f.label }

-- a step, and those that go on from it
abbrev pub step_and : Step → Option (List Step) → Option (List Step)
step_and s steps = option_map (λ ss. s ∷ ss) steps

-- the fields that the parts mean one after another, from the message on, if each means one
abbrev pub steps : Files → Scope → (message : Text) → List OptionPartSyntax → Option (List Step)
steps files scope message [] = Some []
steps files scope message (p ∷ ps) =
    option_and_then
    (λ (f : FieldDescriptor).
    step_and (step_of f) (steps files scope (type_name_of f) ps))
    (part_field files scope message p)

-- ---- names

-- the options messages of google/protobuf/descriptor.proto
abbrev pub options_message : Construct → Text
options_message of.File = codes ".google.protobuf.FileOptions"
options_message of.Message = codes ".google.protobuf.MessageOptions"
options_message of.Field = codes ".google.protobuf.FieldOptions"
options_message of.Oneof = codes ".google.protobuf.OneofOptions"
options_message of.Enum = codes ".google.protobuf.EnumOptions"
options_message of.EnumValue = codes ".google.protobuf.EnumValueOptions"
options_message of.Service = codes ".google.protobuf.ServiceOptions"
options_message of.Method = codes ".google.protobuf.MethodOptions"

-- no built-in option that can be set is repeated
abbrev pub builtin_step : ℕ → List Step
builtin_step n = record { number = n; repeated = false } ∷ []

-- the fields that the name of an option of the construct leads through, seen from the scope
abbrev pub option_steps : Files → Construct → Scope → OptionNameSyntax → Option (List Step)
option_steps files construct scope (builtin name) =
    option_map builtin_step (builtin_number construct name)
option_steps files construct scope (custom parts) =
    steps files scope (options_message construct) parts
