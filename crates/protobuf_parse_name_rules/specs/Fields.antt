-- The fields that names in options mean: as they are looked up in files that are seen, by
-- `protobuf_parse_option_paths`.
use Rattle.std.specs.Prelude.{List, [], ◌∷◌, Option, Some, None, option_map, option_to_list}
use Rattle.std.specs.Prelude.{flat_map}
use Rattle.std.specs.Option.{option_and_then}
use Rattle.protobuf_parse_lexer.specs.declared.lexer.token.Place.{Place}
use Rattle.protobuf_parse_syntax.specs.Trees.{ConstantNameSyntax, ConstantSyntax, OptionNameSyntax}
use Rattle.protobuf_parse_syntax.specs.Trees.{OptionPartSyntax, OptionSyntax, builtin, custom}
use Rattle.protobuf_parse_syntax.specs.Trees.{direct, extension, extension_name, regular_name}
use Rattle.protobuf_parse_syntax.specs.Trees.{url_name}
use Rattle.protobuf_parse_model.specs.Declarations.{Declared}
use Rattle.protobuf_parse_model.specs.Descriptors.{Text, FieldDescriptor}
use Rattle.protobuf_parse_model.specs.Environment.{option_path_text}
use Rattle.protobuf_parse_model.specs.Lookup.{meant}
use Rattle.protobuf_parse_model.specs.declared.customs.Construct.{Construct}
use Rattle.protobuf_parse_option_paths.specs.Names.{field_named, if_extends, options_message}
use Rattle.protobuf_parse_option_paths.specs.Names.{type_name_of}
use Rattle.protobuf_parse_name_rules.specs.Lookups.{Viewpoint, extensions}

-- ---- one name

-- the extension that a name means
abbrev pub extension_meant : Viewpoint → Text → Option (Declared FieldDescriptor)
extension_meant at name = meant (extensions at.sight) at.scope name

-- the same, if it is one of the message
abbrev pub extension_of : Viewpoint → (message name : Text) → Option FieldDescriptor
extension_of at message name =
    option_and_then (λ (d : Declared FieldDescriptor). if_extends message d.what)
    (extension_meant at name)

-- the field of the message that a part of an option's name means
abbrev pub part_field : Viewpoint → (message : Text) → OptionPartSyntax → Option FieldDescriptor
part_field at message (direct name) = field_named at.sight.reached message name
part_field at message (extension name) = extension_of at message name

-- the field of the message that a name in a constant for it means
abbrev pub constant_field : Viewpoint → (message : Text) → ConstantNameSyntax
    → Option FieldDescriptor
constant_field at message (regular_name name) = field_named at.sight.reached message name
constant_field at message (extension_name name) = extension_of at message name
constant_field at message (url_name name) = None

-- ---- whole names

-- a field, and those that go on from it
abbrev pub field_and : FieldDescriptor → Option (List FieldDescriptor)
    → Option (List FieldDescriptor)
field_and f fields = option_map (λ fs. f ∷ fs) fields

-- the fields that the parts lead through, from the message on, if each means one
abbrev pub fields_through : Viewpoint → (message : Text) → List OptionPartSyntax
    → Option (List FieldDescriptor)
fields_through at message [] = Some []
fields_through at message (p ∷ ps) =
    option_and_then
    (λ (f : FieldDescriptor). field_and f (fields_through at (type_name_of f) ps))
    (part_field at message p)

-- a custom option: where its name stands, its name, the fields that the name leads through, and its
-- value
pub record CustomOption : Type 0 where
  pub place : Place
  pub name : Text
  pub fields : List FieldDescriptor
  pub value : ConstantSyntax

-- the option of that name and value, if it is custom and its name leads somewhere
abbrev pub custom_option : Viewpoint → Construct → Place → ConstantSyntax → OptionNameSyntax
    → List CustomOption
custom_option at construct place value (builtin name) = []
custom_option at construct place value (custom parts) =
    option_to_list (option_map
    (λ fs. record { place = place; name = option_path_text parts; fields = fs; value = value })
    (fields_through at (options_message construct) parts))

-- such ones of a list or a body
abbrev pub custom_options : Viewpoint → Construct → List OptionSyntax → List CustomOption
custom_options at construct options =
    flat_map (λ (o : OptionSyntax). custom_option at construct o.place o.value o.name) options
