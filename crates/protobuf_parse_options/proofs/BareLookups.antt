-- In files that are the same but for their options names mean the same, but for options.
use Rattle.std.proofs.Common.{◌≡◌, Bool, true, false, cond, List, [], ◌∷◌, map, flat_map, Option}
use Rattle.std.proofs.Common.{Some, None, option_map, refl, sym, ap, ◌∙◌, bytes_eq}
use Rattle.std.specs.List.{find, list_any}
use Rattle.std.specs.Option.{option_or}
use Rattle.std.proofs.Math.Path.{fun_ext}
use Rattle.protobuf_parse_base.specs.Names.{fronts}
use Rattle.protobuf_parse_model.specs.Descriptors.{Text, FieldDescriptor, EnumDescriptor}
use Rattle.protobuf_parse_model.specs.Descriptors.{EnumValueDescriptor, MessageParts}
use Rattle.protobuf_parse_model.specs.Descriptors.{FileDescriptor}
use Rattle.protobuf_parse_model.specs.Declarations.{Scope, Declared, full_name}
use Rattle.protobuf_parse_model.specs.Lookup.{Meanings, begins_with_dot, declared}
use Rattle.protobuf_parse_model.specs.Lookup.{declared_in_first, meant, meaning}
use Rattle.protobuf_parse_wire.specs.Declarations.{Declaration, messages_declared_in}
use Rattle.protobuf_parse_wire.specs.Declarations.{declared_extensions}
use Rattle.protobuf_parse_wire.specs.Declarations.{messages_with_name}
use Rattle.protobuf_parse_options.specs.OptionFields.{OptionScope, declared_enums}
use Rattle.protobuf_parse_options.specs.OptionFields.{fields_of_message}
use Rattle.protobuf_parse_options.specs.OptionFields.{field_named, values_of_enum, number_of_value}
use Rattle.protobuf_parse_options.specs.OptionFields.{names_message}
use Rattle.protobuf_parse_options.specs.WithoutOptions.{bare_field, bare_value, bare_parts}
use Rattle.protobuf_parse_options.specs.WithoutOptions.{bare_file}
use Rattle.protobuf_parse_options.specs.WithoutOptions.{DifferOnlyInOptions}
use Rattle.protobuf_parse_options.proofs.BareDeclarations.{all-become, found-becomes, any-becomes}
use Rattle.protobuf_parse_options.proofs.BareDeclarations.{bare_declaration, declared-bare}
use Rattle.protobuf_parse_options.proofs.BareDeclarations.{messages-of-bare, bare_extension}
use Rattle.protobuf_parse_options.proofs.BareDeclarations.{all-extensions-bare, bare_declared_enum}
use Rattle.protobuf_parse_options.proofs.BareDeclarations.{all-enums-bare}
use Rattle.protobuf_parse_options.proofs.AlikeLookups.{AlikeLookups}

-- ---- fields

fields-bare : (files : List FileDescriptor) (message : Text)
    → fields_of_message (map bare_file files) message
    ≡ map bare_field (fields_of_message files message)
fields-bare files message =
    ap (flat_map (λ (parts : MessageParts). parts.field)) (messages-of-bare files message)
    ∙ all-become bare_parts bare_field (λ (parts : MessageParts). parts.field)
    (λ (parts : MessageParts). parts.field) (λ parts. refl) (messages_with_name files message)

field-bare : (files : List FileDescriptor) (message name : Text)
    → field_named (map bare_file files) message name
    ≡ option_map bare_field (field_named files message name)
field-bare files message name =
    ap (find (λ (f : FieldDescriptor). bytes_eq f.name name)) (fields-bare files message)
    ∙ found-becomes bare_field (λ (f : FieldDescriptor). bytes_eq f.name name)
    (fields_of_message files message)

-- ---- values of enums

values-if : (b : Bool) (vs : List EnumValueDescriptor)
    → cond b (map bare_value vs) [] ≡ map bare_value (cond b vs [])
values-if true vs = refl
values-if false vs = refl

-- the values of the enum, where it has the name
abbrev values_where : Text → Declared EnumDescriptor → List EnumValueDescriptor
values_where name e = cond (bytes_eq e.name name) e.what.value []

values-bare : (files : List FileDescriptor) (name : Text)
    → values_of_enum (map bare_file files) name ≡ map bare_value (values_of_enum files name)
values-bare files name =
    ap (flat_map (values_where name)) (all-enums-bare files)
    ∙ all-become bare_declared_enum bare_value (values_where name) (values_where name)
    (λ e. values-if (bytes_eq e.name name) e.what.value) (flat_map declared_enums files)

numbers-bare : (o : Option EnumValueDescriptor)
    → option_map (λ (v : EnumValueDescriptor). v.number) (option_map bare_value o)
    ≡ option_map (λ (v : EnumValueDescriptor). v.number) o
numbers-bare None = refl
numbers-bare (Some v) = refl

number-bare : (files : List FileDescriptor) (enum_name name : Text)
    → number_of_value (map bare_file files) enum_name name ≡ number_of_value files enum_name name
number-bare files enum_name name =
    ap (λ (vs : List EnumValueDescriptor). option_map (λ (v : EnumValueDescriptor). v.number)
    (find (λ (v : EnumValueDescriptor). bytes_eq v.name name) vs)) (values-bare files enum_name)
    ∙ ap (option_map (λ (v : EnumValueDescriptor). v.number))
    (found-becomes bare_value (λ (v : EnumValueDescriptor). bytes_eq v.name name)
    (values_of_enum files enum_name))
    ∙ numbers-bare
    (find (λ (v : EnumValueDescriptor). bytes_eq v.name name) (values_of_enum files enum_name))

-- ---- messages

message-bare : (files : List FileDescriptor) (name : Text)
    → names_message (map bare_file files) name ≡ names_message files name
message-bare files name =
    ap (list_any (λ (d : Declaration). bytes_eq name d.name)) (declared-bare files)
    ∙ any-becomes bare_declaration (λ (d : Declaration). bytes_eq name d.name)
    (flat_map messages_declared_in files)

-- ---- extensions

first-becomes : {A B : Type 0} (f : A → B) (o p : Option A)
    → option_or (option_map f o) (option_map f p) ≡ option_map f (option_or o p)
first-becomes f None p = refl
first-becomes f (Some x) p = refl

module _ (of : Meanings FieldDescriptor) where
  -- each name means the same, without its options
  abbrev barely : Meanings FieldDescriptor
  barely name = option_map bare_extension (of name)

  in-first-bare : (name : Text) (scopes : List Scope)
      → declared_in_first barely name scopes
      ≡ option_map bare_extension (declared_in_first of name scopes)
  in-first-bare name [] = refl
  in-first-bare name (scope ∷ scopes) =
      ap (option_or (barely (full_name scope name))) (in-first-bare name scopes)
      ∙ first-becomes bare_extension (of (full_name scope name)) (declared_in_first of name scopes)

  meant-bare : (scope : Scope) (name : Text)
      → meant barely scope name ≡ option_map bare_extension (meant of scope name)
  meant-bare scope name = at (begins_with_dot name)
    where
      at : (b : Bool)
          → cond b (barely name) (declared_in_first barely name (fronts scope))
          ≡ option_map bare_extension
          (cond b (of name) (declared_in_first of name (fronts scope)))
      at true = refl
      at false = in-first-bare name (fronts scope)

extension-bare : (visible : List FileDescriptor) (scope : Scope) (name : Text)
    → meaning (flat_map declared_extensions (map bare_file visible)) scope name
    ≡ option_map bare_extension (meaning (flat_map declared_extensions visible) scope name)
extension-bare visible scope name =
    let ds : List (Declared FieldDescriptor) = flat_map declared_extensions visible in
    let declared-bare : declared (map bare_extension ds)
    ≡ barely (declared ds) =
    fun_ext (λ (n : Text). found-becomes bare_extension
    (λ (d : Declared FieldDescriptor). bytes_eq d.name n) ds) in
    ap (λ (es : List (Declared FieldDescriptor)). meaning es scope name)
    (all-extensions-bare visible)
    ∙ ap (λ (of : Meanings FieldDescriptor). meant of scope name) declared-bare
    ∙ meant-bare (declared ds) scope name

-- ---- in files that differ in options

-- what is seen from a scope
abbrev pub seen_from : (files visible : List FileDescriptor) → Scope → OptionScope
seen_from files visible scope = record { files = files; visible = visible; scope = scope }

pub lookups-alike : (files files' visible visible' : List FileDescriptor)
    → DifferOnlyInOptions files files' → DifferOnlyInOptions visible visible' → (scope : Scope)
    → AlikeLookups (seen_from files visible scope) (seen_from files' visible' scope)
lookups-alike files files' visible visible' same seen scope = record {
  fields = λ message name. sym (field-bare files message name)
      ∙ ap (λ fs. field_named fs message name) same ∙ field-bare files' message name;
  values = λ enum_name name. sym (number-bare files enum_name name)
      ∙ ap (λ fs. number_of_value fs enum_name name) same ∙ number-bare files' enum_name name;
  messages = λ name. sym (message-bare files name) ∙ ap (λ fs. names_message fs name) same
      ∙ message-bare files' name;
  extensions = λ name. sym (extension-bare visible scope name)
      ∙ ap (λ fs. meaning (flat_map declared_extensions fs) scope name) seen
      ∙ extension-bare visible' scope name;
}
