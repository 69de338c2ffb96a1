-- No public clause rests on this file.
-- What the constants of lists and of message constants give, as lists and as bytes; and from where
-- the code sees options.
use Rattle.std.specs.Prelude.{ℕ, List, ◌++◌, map, flat_map, option_to_list}
use Rattle.protobuf_parse_syntax.specs.Trees.{ConstantSyntax, ConstantFieldSyntax, OptionPartSyntax}
use Rattle.protobuf_parse_syntax.specs.Trees.{option_part_syntax, OptionSyntax}
use Rattle.protobuf_parse_model.specs.declared.customs.Construct.{Construct}
use Rattle.protobuf_parse_syntax.specs.declared.tree.option.ProtobufOptionNamePart.{ProtobufOptionNamePart}
use Rattle.protobuf_parse_model.specs.SeenFiles.{name_texts}
use Rattle.protobuf_parse_model.specs.Descriptors.{Text, FieldDescriptor}
use Rattle.protobuf_parse_model.specs.Environment.{part_text, option_path_text}
use Rattle.protobuf_parse_model.specs.Faults.{Wrong}
use Rattle.protobuf_parse_options.specs.declared.viewpoint.OptionViewpoint.{OptionViewpoint}
use Rattle.protobuf_parse_options.specs.CustomFaults.{constant_name_faults, number_faults}
use Rattle.protobuf_parse_options.specs.CustomFaults.{path_faults}
use Rattle.protobuf_parse_options.specs.CustomFaults.{step_faults, constant_faults}
use Rattle.protobuf_parse_options.specs.CustomOptions.{item_of_message, items_of_option}
use Rattle.protobuf_parse_options.specs.CustomOptions.{path_items, value_items}
use Rattle.protobuf_parse_options.specs.Holding.{files_seen}
use Rattle.protobuf_parse_options.specs.OptionFields.{OptionScope, constant_field, type_takes}
use Rattle.protobuf_parse_options.specs.OptionFields.{type_name_of}
use Rattle.protobuf_parse_wire.specs.Encoded.{encoded}
use Rattle.protobuf_parse_wire.specs.Views.{WireItem, entries_of_list}
use Rattle.protobuf_parse_wire.specs.Writing.{AreWritable}

abbrev pub option_scope_view : OptionViewpoint → OptionScope
option_scope_view p = record {
  files = files_seen p.customs.now.reach;
  visible = files_seen p.customs.now.sight;
  scope = name_texts p.scope.now;
}

-- the name of an option as it is written
abbrev pub path_said : List ProtobufOptionNamePart → Text
path_said parts = option_path_text (map option_part_syntax parts)

-- of a value for the field that a name means
abbrev pub given_faults : OptionScope → Text → ConstantSyntax → FieldDescriptor → List Wrong
given_faults at option c g = number_faults g ++ constant_faults at option g c

abbrev pub field_faults_of : OptionScope → Text → Text → ConstantFieldSyntax → List Wrong
field_faults_of at option message f = constant_name_faults at message f.name ++ flat_map
    (given_faults at option f.value) (option_to_list (constant_field at message f.name))

abbrev pub given_items : OptionScope → ConstantSyntax → FieldDescriptor → List WireItem
given_items at c g = value_items at g c

abbrev pub given_field_items : OptionScope → Text → ConstantFieldSyntax → List WireItem
given_field_items at message f = flat_map (given_items at f.value)
    (option_to_list (constant_field at message f.name))

-- The items can be written.
abbrev pub AreFit : List WireItem → Type 0
AreFit items = AreWritable (entries_of_list items)

-- the bytes that spell them
abbrev pub bytes_of_items : List WireItem → List ℕ
bytes_of_items items = encoded (entries_of_list items)

abbrev pub value_bytes : OptionScope → FieldDescriptor → ConstantSyntax → List ℕ
value_bytes at f c = bytes_of_items (value_items at f c)

abbrev pub given_field_bytes : OptionScope → Text → ConstantFieldSyntax → List ℕ
given_field_bytes at message f = bytes_of_items (given_field_items at message f)

abbrev pub bytes_of_option : OptionScope → Construct → OptionSyntax → List ℕ
bytes_of_option at construct o = bytes_of_items (items_of_option at construct o)

-- of a field that other parts follow, which the part means
abbrev pub through_faults : OptionScope → Text → ConstantSyntax → OptionPartSyntax
    → List OptionPartSyntax → FieldDescriptor → List Wrong
through_faults at option value p ps g = number_faults g ++ step_faults (part_text p)
    (type_takes g.type_) (path_faults at option value (type_name_of g) ps)

abbrev pub through_items : OptionScope → ConstantSyntax → List OptionPartSyntax → FieldDescriptor
    → List WireItem
through_items at value ps g = item_of_message g (path_items at value (type_name_of g) ps)
