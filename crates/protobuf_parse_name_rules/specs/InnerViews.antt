-- No public clause rests on this file.
-- What the code keeps, without where it lies in memory.
use Rattle.std.specs.Prelude.{ℕ, ℤ, Bool, List, ◌∷◌, ◌++◌, flat_map, Option, Vec, map}
use Rattle.std.specs.Prelude.{option_map, option_to_list}
use Rattle.std.specs.Global.{Global}
use Rattle.std.specs.Borrow.{Bor}
use Rattle.std.specs.BTreeSet.{BTreeSet, contains, contains_by, contains_text}
use Rattle.std.specs.Cmp.Lexicographic.{slice_cmp}
use Rattle.std.specs.Ordering.{int_cmp, nat_cmp}
use Rattle.protobuf_parse_model.specs.Descriptors.{Text, FieldDescriptor, field_view, file_view}
use Rattle.protobuf_parse_model.specs.declared.descriptor.FieldDescriptorProto.{FieldDescriptorProto}
use Rattle.protobuf_parse_model.specs.SeenFiles.{name_texts}
use Rattle.protobuf_parse_lexer.specs.declared.lexer.token.Place.{Place}
use Rattle.protobuf_parse_syntax.specs.Trees.{ConstantFieldSyntax}
use Rattle.protobuf_parse_model.specs.Descriptors.{MessageDescriptor}
use Rattle.protobuf_parse_index.specs.Lookups.{message_named}
use Rattle.protobuf_parse_index.specs.Walk.{Standing}
use Rattle.protobuf_parse_text_rules.specs.Breaches.{TextBreach}
use Rattle.protobuf_parse_name_rules.specs.Constants.{Given, given_by, list_breaches, own_breaches}
use Rattle.protobuf_parse_name_rules.specs.Constants.{value_breaches}
use Rattle.protobuf_parse_name_rules.specs.declared.given.GivenField.{GivenField}
use Rattle.protobuf_parse_syntax.specs.Trees.{OptionSyntax, constant_syntax, option_part_syntax}
use Rattle.protobuf_parse_model.specs.Environment.{option_path_text}
use Rattle.protobuf_parse_model.specs.declared.customs.Construct.{Construct}
use Rattle.protobuf_parse_name_rules.specs.Fields as fields
use Rattle.protobuf_parse_name_rules.specs.Fields.{constant_field, custom_option}
use Rattle.protobuf_parse_name_rules.specs.Options.{Path, path_to, paths_in}
use Rattle.protobuf_parse_name_rules.specs.declared.options.CustomOption.{CustomOption}
use Rattle.protobuf_parse_name_rules.specs.Lookups.{Sight, Viewpoint, is_extension, is_type}
use Rattle.protobuf_parse_name_rules.specs.declared.files.NameSight.{NameSight}
use Rattle.protobuf_parse_name_rules.specs.declared.files.NameViewpoint.{NameViewpoint}
use Rattle.protobuf_parse_name_rules.specs.declared.names.Wanted.{Wanted}
use Rattle.protobuf_parse_name_rules.specs.declared.names.Wanted.TheVariants as wanted

-- whether a set has the text
abbrev pub has_text : BTreeSet (Bor (List ℕ)) → Text → Bool
has_text s text = contains_by (λ (k : Bor (List ℕ)). slice_cmp nat_cmp text k.now) s

-- a sight
abbrev pub sight_view : NameSight → Sight
sight_view s = record {
  reached = map file_view s.index.now;
  sees = has_text s.paths;
  has_package = contains_text s.packages;
}

-- a viewpoint
abbrev pub viewpoint_view : NameViewpoint → Viewpoint
viewpoint_view v = record { sight = sight_view v.sight.now; scope = name_texts v.scope.now }

-- whether a full name means what is wanted
abbrev pub is_meant : Sight → Wanted → Text → Bool
is_meant sight wanted.Type name = is_type sight name
is_meant sight wanted.Extension name = is_extension sight name

-- fields that are lent
abbrev pub fields_view : List (Bor FieldDescriptorProto) → List FieldDescriptor
fields_view fs = map (λ (f : Bor FieldDescriptorProto). field_view f.now) fs

-- those that were found
abbrev pub fields_seen : Option (Vec (Bor FieldDescriptorProto) Global)
    → Option (List FieldDescriptor)
fields_seen found =
    option_map (λ (v : Vec (Bor FieldDescriptorProto) Global). fields_view v.items) found

-- ---- message constants

-- a field that is given
abbrev pub given_view : GivenField → Given
given_view g = record { name = g.name.now; field = field_view g.field.now }

-- whether a set has the number
abbrev pub has_number : BTreeSet ℤ → ℤ → Bool
has_number s n = contains int_cmp s n

-- the field that one of a constant for the message gives
abbrev pub given_of : Viewpoint → (message : Text) → ConstantFieldSyntax → List Given
given_of at message f = given_by at message f.name

-- what is wrong with the value of one
abbrev pub member_breaches : Viewpoint → Place → (message : Text) → ConstantFieldSyntax
    → List TextBreach
member_breaches at place message f =
    flat_map
    (λ (g : Given). list_breaches place g f.value ++ value_breaches at place g.field f.value)
    (given_by at message f.name)

-- what is wrong with a constant for the message
abbrev pub message_breaches : Viewpoint → Place → (message : Text) → List ConstantFieldSyntax
    → List TextBreach
message_breaches at place message fs =
    flat_map
    (λ (m : Standing MessageDescriptor).
    own_breaches place m.what (flat_map (given_of at message) fs)
    ++ flat_map (member_breaches at place message) fs)
    (option_to_list (message_named at.sight.reached message))

-- ---- custom options

-- a custom option
abbrev pub custom_view : CustomOption → fields.CustomOption
custom_view c = record {
  place = c.option.now.place;
  name = option_path_text (map option_part_syntax c.parts.now);
  fields = fields_view c.fields.items;
  value = constant_syntax c.option.now.value;
}

-- what an option is, if it is a custom one whose name leads somewhere
abbrev pub custom_of : Viewpoint → Construct → OptionSyntax → List fields.CustomOption
custom_of at construct o = custom_option at construct o.place o.value o.name

-- whether a set has the path
abbrev pub has_path : BTreeSet (Vec ℕ Global) → Path → Bool
has_path s path = contains_by (λ (k : Vec ℕ Global). slice_cmp nat_cmp path k.items) s

-- the paths that a field of a constant for the message sets
abbrev pub paths_by : Viewpoint → Path → (message : Text) → ConstantFieldSyntax → List Path
paths_by at path message c =
    flat_map
    (λ (f : FieldDescriptor). path_to path f ∷ paths_in at (path_to path f) f c.value)
    (option_to_list (constant_field at message c.name))
