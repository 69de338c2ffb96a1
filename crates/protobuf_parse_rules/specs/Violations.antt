-- The violations of files, in order.
use Rattle.std.specs.Prelude.{Bool, true, false, Option, List, [], ◌∷◌, ◌++◌, flat_map}
use Rattle.protobuf_parse_model.specs.Descriptors.{Text, FileDescriptor, FieldDescriptor}
use Rattle.protobuf_parse_wire.specs.Declarations.{name_within}
use Rattle.protobuf_parse_rules.specs.Bodies.{Content, BodyParts, bodies_in, fields_of}
use Rattle.protobuf_parse_rules.specs.Bodies.{extensions_of}
use Rattle.protobuf_parse_rules.specs.Bodies.{enums_of, extension_ranges, imports_of}
use Rattle.protobuf_parse_rules.specs.Bodies.{reserved_names, reserved_ranges}
use Rattle.protobuf_parse_rules.specs.Alike.{fields_alike}
use Rattle.protobuf_parse_rules.specs.Repeats.{repeats}
use Rattle.protobuf_parse_rules.specs.declared.rule.Rule.TheVariants as rule
use Rattle.protobuf_parse_rules.specs.Defaults.{default_of}
use Rattle.protobuf_parse_rules.specs.Claims.{Claim, conflicts}
use Rattle.protobuf_parse_rules.specs.Enums.{enum_breaches}
use Rattle.protobuf_parse_rules.specs.EnumUses.{default_value, enum_of_proto2, map_value, of_enum}
use Rattle.protobuf_parse_rules.specs.Extensions.{of_extendee, of_message_set, outside_ranges}
use Rattle.protobuf_parse_rules.specs.Extensions.{of_enum_extended, required_extension}
use Rattle.protobuf_parse_rules.specs.FieldOptions.{js_type_option, lazy_option, option_of}
use Rattle.protobuf_parse_rules.specs.FieldOptions.{packed_option}
use Rattle.protobuf_parse_rules.specs.Imports.{unused_imports}
use Rattle.protobuf_parse_rules.specs.JsonNames.{json_names_in_use}
use Rattle.protobuf_parse_rules.specs.Limits.{limit}
use Rattle.protobuf_parse_rules.specs.Maps.{key_type}
use Rattle.protobuf_parse_rules.specs.MessageSets.{field_of_set, is_message_set}
use Rattle.protobuf_parse_rules.specs.Methods.{methods_breaches}
use Rattle.protobuf_parse_rules.specs.Names.{names_in_use}
use Rattle.protobuf_parse_rules.specs.Nesting.{deep_messages}
use Rattle.protobuf_parse_rules.specs.Numbers.{claims, number_rule}
use Rattle.protobuf_parse_rules.specs.Oneofs.{empty_oneofs}
use Rattle.protobuf_parse_rules.specs.Proto3.{default_field, extended, group_field, ranges_kept}
use Rattle.protobuf_parse_rules.specs.Proto3.{required_field, set_in_proto3}
use Rattle.protobuf_parse_rules.specs.Ranges.{extension_range, kept_number, reserved_name}
use Rattle.protobuf_parse_rules.specs.Ranges.{ranges_of, reserved_number, reserved_range}
use Rattle.protobuf_parse_rules.specs.Rules.{Breach, Broken, Site, breaches_at}
use Rattle.protobuf_parse_rules.specs.Runtimes.{runtime_breaches}

-- what has that name in a body
abbrev pub site_in : BodyParts → Text → Site
site_in p name = record { file = p.file; construct = name_within p.scope name }

-- the message of a body, or the package of its file
abbrev pub site_of_body : BodyParts → Site
site_of_body p = record { file = p.file; construct = p.scope }

-- what is wrong with a field or an extension by itself
abbrev pub common_rules : List BodyParts → (proto3 : Bool) → FieldDescriptor → List (Option Broken)
common_rules all proto3 f =
    required_field proto3 f.label
    ∷ group_field proto3 f.type_
    ∷ default_field proto3 f.default_value
    ∷ default_of f f.default_value
    ∷ option_of (packed_option f.label f.type_) f
    ∷ option_of (lazy_option f.type_) f
    ∷ option_of (js_type_option f.type_) f
    ∷ of_enum all (enum_of_proto2 proto3) f
    ∷ of_enum all (default_value f) f
    ∷ []

-- what more is wrong with a field of a message
abbrev pub field_rules : List BodyParts → Content → FieldDescriptor → List (Option Broken)
field_rules all content f =
    limit false f.number
    ∷ reserved_number f.number content
    ∷ reserved_name f.name content
    ∷ kept_number f.number content
    ∷ field_of_set content
    ∷ key_type content f
    ∷ of_enum all (map_value content f) f
    ∷ []

-- what more is wrong with an extension
abbrev pub extension_rules : List BodyParts → (proto3 : Bool) → FieldDescriptor
    → List (Option Broken)
extension_rules all proto3 e =
    limit true e.number
    ∷ required_extension e.label
    ∷ extended proto3 e.extendee
    ∷ of_enum_extended all e
    ∷ of_extendee all (outside_ranges e.number) e
    ∷ of_extendee all (of_message_set e) e
    ∷ []

-- of a field of a message
abbrev pub field_breaches : List BodyParts → BodyParts → FieldDescriptor → List Breach
field_breaches all p f = breaches_at (site_in p f.name) (field_rules all p.content f)
    ++ breaches_at (site_in p f.name) (common_rules all p.proto3 f)

-- of an extension
abbrev pub extension_breaches : List BodyParts → BodyParts → FieldDescriptor → List Breach
extension_breaches all p e = breaches_at (site_in p e.name) (extension_rules all p.proto3 e)
    ++ breaches_at (site_in p e.name) (common_rules all p.proto3 e)

-- what is wrong with a message or a file itself, and with its ranges
abbrev pub own_rules : (proto3 : Bool) → Content → List (Option Broken)
own_rules proto3 content = ranges_kept proto3 content ∷ set_in_proto3 proto3 content ∷ []

-- of the ranges of a message
abbrev pub range_breaches : BodyParts → List Breach
range_breaches p =
    flat_map (extension_range (site_of_body p) (is_message_set p.content) (ranges_of p.content))
    (extension_ranges p.content)
    ++ flat_map (reserved_range (site_of_body p) (ranges_of p.content)) (reserved_ranges p.content)

-- what is wrong with a file's imports
abbrev pub imports_breaches : List BodyParts → BodyParts → List Breach
imports_breaches all p =
    repeats rule.ImportedTwice (site_of_body p) (imports_of p.content) ++ unused_imports all p

-- of a message or a file itself
abbrev pub own_breaches : List BodyParts → BodyParts → List Breach
own_breaches all p =
    breaches_at (site_of_body p) (own_rules p.proto3 p.content)
    ++ (empty_oneofs p
    ++ (imports_breaches all p
    ++ (repeats rule.NameReservedTwice (site_of_body p) (reserved_names p.content)
    ++ (range_breaches p
    ++ (deep_messages p ++ methods_breaches all p)))))

-- of all else that stands in a body
abbrev pub breaches_in_rest : List BodyParts → BodyParts → List Breach
breaches_in_rest all p = own_breaches all p ++ flat_map (enum_breaches p) (enums_of p.content)

-- those of a body by itself
abbrev pub breaches_inside : (all : List BodyParts) → BodyParts → List Breach
breaches_inside all p =
    (json_names_in_use p ++ fields_alike p)
    ++ (flat_map (field_breaches all p) (fields_of p.content)
    ++ (flat_map (extension_breaches all p) (extensions_of p.content)
    ++ breaches_in_rest all p))

-- those of a body behind bodies with these claims: first the numbers that these claim
abbrev pub breaches_of_body : (all : List BodyParts) → (before : List Claim) → BodyParts
    → List Breach
breaches_of_body all before p =
    conflicts number_rule before (claims p) ++ breaches_inside all p

-- those of bodies, one after the other
abbrev pub breaches_after : (all : List BodyParts) → (before : List Claim) → List BodyParts
    → List Breach
breaches_after all before [] = []
breaches_after all before (p ∷ ps) =
    breaches_of_body all before p ++ breaches_after all (before ++ claims p) ps

-- those of bodies, of which each knows of all others; then names that are in use, and then what is
-- wrong with runtimes
abbrev pub breaches_among : List BodyParts → List Breach
breaches_among all =
    breaches_after all [] all ++ (names_in_use all ++ flat_map (runtime_breaches all) all)

-- those of files: file by file, then the names, and then the runtimes
abbrev pub breaches : List FileDescriptor → List Breach
breaches files = breaches_among (flat_map bodies_in files)
