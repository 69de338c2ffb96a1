-- Where the bytes of custom options stand in the descriptor of their file.
--
-- Custom options are extension fields of the options message of their construct, as `FieldOptions`
-- is that of a field (Protocol Buffers Language Guide (proto2), "Custom Options",
-- https://protobuf.dev). So each options message of a descriptor holds bytes for them, in `custom`.
-- These are the bytes of the file's sets of options: `OptionsStand` says that each set that has a
-- statement stands there, `NoOthersStand` that nothing else does, and `SetsStandOnce` that each
-- such set stands there once. (A set without statements has no options message.)
--
-- `BytesStand` says nothing of how a descriptor is gone through. Take two ways to write custom
-- options as bytes. Where a file becomes the same by both, each of its sets of options that has a
-- statement becomes the same bytes by both: so these bytes can be told from the descriptor. The
-- other way round is `BytesAreOfSets`: the descriptor depends on no other bytes of custom options.
use Rattle.std.specs.Prelude.{◌≡◌, ◌⊎◌, nat_lt, List, [], ◌∷◌, ◌++◌, map, flat_map, filter}
use Rattle.std.specs.Prelude.{length, IsPermutation, Option, Some, None}
use Rattle.protobuf_parse_syntax.specs.Trees.{FileSyntax}
use Rattle.protobuf_parse_model.specs.declared.customs.Construct.{Construct}
use Rattle.protobuf_parse_model.specs.declared.customs.Construct.TheVariants as of
use Rattle.protobuf_parse_model.specs.Options.{FileOptionValues, MessageOptionValues}
use Rattle.protobuf_parse_model.specs.Options.{FieldOptionValues}
use Rattle.protobuf_parse_model.specs.Options.{OneofOptionValues, EnumOptionValues}
use Rattle.protobuf_parse_model.specs.Options.{EnumValueOptionValues}
use Rattle.protobuf_parse_model.specs.Options.{ServiceOptionValues, MethodOptionValues}
use Rattle.protobuf_parse_model.specs.Descriptors.{Text, FieldDescriptor, OneofDescriptor}
use Rattle.protobuf_parse_model.specs.Descriptors.{EnumValueDescriptor, EnumDescriptor}
use Rattle.protobuf_parse_model.specs.Descriptors.{MessageDescriptor, MessageDescriptors, a_message}
use Rattle.protobuf_parse_model.specs.Descriptors.{no_messages, messages, MethodDescriptor}
use Rattle.protobuf_parse_model.specs.Descriptors.{ServiceDescriptor, FileDescriptor}
use Rattle.protobuf_parse_model.specs.Declarations.{Scope, inside, full_name, scope_of_package}
use Rattle.protobuf_parse_model.specs.Faults.{Among}
use Rattle.protobuf_parse_model.specs.Environment.{Customs}
use Rattle.protobuf_parse_elaboration.specs.FileDescriptor.{environment, file_of}
use Rattle.protobuf_parse_elaboration.specs.OptionSets.{OptionSet, option_sets}
use Rattle.protobuf_parse_elaboration.specs.CustomSets.{bytes_of_set}

-- ---- what the options messages of a descriptor hold

-- what the options message of the construct with that full name holds for custom options
pub record HeldBytes : Type 0 where
  pub construct : Construct
  pub name : Text
  pub bytes : Text

-- by an options message, where there is one
abbrev pub held : {A : Type 0} → (A → Text) → Construct → Text → Option A → List HeldBytes
held custom construct name None = []
held custom construct name (Some options) =
    record { construct = construct; name = name; bytes = custom options } ∷ []

-- of a field or of an extension of that scope
abbrev pub held_in_field : Scope → FieldDescriptor → List HeldBytes
held_in_field scope d =
    held (λ (o : FieldOptionValues). o.custom) of.Field (full_name scope d.name) d.options

-- of a oneof of that scope
abbrev pub held_in_oneof : Scope → OneofDescriptor → List HeldBytes
held_in_oneof scope d =
    held (λ (o : OneofOptionValues). o.custom) of.Oneof (full_name scope d.name) d.options

-- of a value, whose enum is the scope
abbrev pub held_in_value : Scope → EnumValueDescriptor → List HeldBytes
held_in_value within d =
    held (λ (o : EnumValueOptionValues). o.custom) of.EnumValue (full_name within d.name) d.options

-- of an enum of that scope, with its values
abbrev pub held_in_enum : Scope → EnumDescriptor → List HeldBytes
held_in_enum scope d =
    held (λ (o : EnumOptionValues). o.custom) of.Enum (full_name scope d.name) d.options
    ++ flat_map (held_in_value (inside scope d.name)) d.value

abbrev mutual
  -- with the messages inside it
  pub held_in_message : Scope → MessageDescriptor → List HeldBytes
  held_in_message scope (a_message parts nested) =
      held (λ (o : MessageOptionValues). o.custom) of.Message (full_name scope parts.name)
      parts.options
      ++ flat_map (held_in_field (inside scope parts.name)) parts.field
      ++ flat_map (held_in_oneof (inside scope parts.name)) parts.oneof_decl
      ++ flat_map (held_in_enum (inside scope parts.name)) parts.enum_type
      ++ flat_map (held_in_field (inside scope parts.name)) parts.extension
      ++ held_in_messages (inside scope parts.name) nested

  -- of messages that stand side by side
  pub held_in_messages : Scope → MessageDescriptors → List HeldBytes
  held_in_messages scope no_messages = []
  held_in_messages scope (messages m ms) = held_in_message scope m ++ held_in_messages scope ms

-- of a method, whose service is the scope
abbrev pub held_in_method : Scope → MethodDescriptor → List HeldBytes
held_in_method within d =
    held (λ (o : MethodOptionValues). o.custom) of.Method (full_name within d.name) d.options

-- of a service of that scope, with its methods
abbrev pub held_in_service : Scope → ServiceDescriptor → List HeldBytes
held_in_service scope d =
    held (λ (o : ServiceOptionValues). o.custom) of.Service (full_name scope d.name) d.options
    ++ flat_map (held_in_method (inside scope d.name)) d.method

-- A file has no full name; its scope is its package.
abbrev pub held_in_file : FileDescriptor → List HeldBytes
held_in_file d = held (λ (o : FileOptionValues). o.custom) of.File [] d.options
    ++ flat_map (held_in_message (scope_of_package d.«package»)) d.message_type
    ++ flat_map (held_in_enum (scope_of_package d.«package»)) d.enum_type
    ++ flat_map (held_in_service (scope_of_package d.«package»)) d.service
    ++ flat_map (held_in_field (scope_of_package d.«package»)) d.extension

-- ---- the laws

-- a statement stands in the set
abbrev pub IsStated : OptionSet → Type 0
IsStated s = s.statements ≡ [] → ⊥

-- the sets in which one stands
abbrev pub stated : List OptionSet → List OptionSet
stated sets = filter (λ (s : OptionSet). nat_lt 0 (length s.statements)) sets

-- what the options message of the set's construct is to hold
abbrev pub held_by_set : Customs → OptionSet → HeldBytes
held_by_set customs s =
    record { construct = s.construct; name = s.name; bytes = bytes_of_set customs s }

-- For each set that has a statement, the options message of its construct holds its bytes.
abbrev pub OptionsStand : Type 0
OptionsStand = (seen : List FileSyntax) (customs : Customs) (path : Text) (t : FileSyntax)
    (s : OptionSet) → Among (option_sets t) s → IsStated s
    → Among (held_in_file (file_of (environment seen customs t) path t)) (held_by_set customs s)

-- An options message that holds bytes holds those of such a set. (One without any may be that of
-- the message behind a map.)
abbrev pub NoOthersStand : Type 0
NoOthersStand = (seen : List FileSyntax) (customs : Customs) (path : Text) (t : FileSyntax)
    (h : HeldBytes) → Among (held_in_file (file_of (environment seen customs t) path t)) h
    → (h.bytes ≡ [])
    ⊎ ((s : OptionSet) × Among (option_sets t) s × IsStated s × (h ≡ held_by_set customs s))

-- what the options message of the message behind a map holds
abbrev pub held_behind_map : Text → HeldBytes
held_behind_map name = record { construct = of.Message; name = name; bytes = [] }

-- What the options messages hold is, put in another order, what each set that has a statement is to
-- hold, once for the set, and what is held behind maps.
abbrev pub SetsStandOnce : Type 0
SetsStandOnce = (seen : List FileSyntax) (customs : Customs) (path : Text) (t : FileSyntax)
    → (behind : List Text)
    × IsPermutation (held_in_file (file_of (environment seen customs t) path t))
    (map (held_by_set customs) (stated (option_sets t)) ++ map held_behind_map behind)

-- The bytes of each set that has a statement can be told from the descriptor.
abbrev pub BytesStand : Type 0
BytesStand = (seen : List FileSyntax) (one other : Customs) (path : Text) (t : FileSyntax)
    → file_of (environment seen one t) path t ≡ file_of (environment seen other t) path t
    → (s : OptionSet) → Among (option_sets t) s → IsStated s
    → bytes_of_set one s ≡ bytes_of_set other s
