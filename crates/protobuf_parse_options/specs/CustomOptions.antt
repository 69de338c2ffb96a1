-- What the custom options of a construct denote: a list of entries, one for each value that a
-- statement gives, in source order; and which bytes stand for them in the descriptor. Where a fault
-- stands the entries may be anything.
--
-- Each part of a name but the last becomes an entry with a message, in which the rest stands. A
-- list gives its items one by one. The name of an enum's value is its number, a message constant a
-- message with an entry for each field; for a map it is the message of one of its entries.
-- Protocol Buffers Language Guide (proto2), "Custom Options"; Protocol Buffers Encoding,
-- "Message Structure" (https://protobuf.dev).
use Rattle.std.specs.Prelude.{ℤ, nat_abs, List, [], ◌∷◌, ◌++◌, map, flat_map, unwrap_or}
use Rattle.std.specs.Prelude.{option_to_list}
use Rattle.protobuf_parse_lexer.specs.Decoder.{decode}
use Rattle.protobuf_parse_syntax.specs.Trees.{ConstantSyntax, integer, truth, dotted, string, list}
use Rattle.protobuf_parse_syntax.specs.Trees.{fields, ConstantList, no_constants, more_constants}
use Rattle.protobuf_parse_syntax.specs.Trees.{ConstantFieldList, no_fields, more_fields}
use Rattle.protobuf_parse_syntax.specs.Trees.{OptionPartSyntax, OptionNameSyntax, builtin, custom}
use Rattle.protobuf_parse_syntax.specs.Trees.{OptionSyntax, FileSyntax}
use Rattle.protobuf_parse_model.specs.Descriptors.{Text, FieldDescriptor, FileDescriptor}
use Rattle.protobuf_parse_model.specs.Faults.{Among}
use Rattle.protobuf_parse_model.specs.declared.customs.Construct.{Construct}
use Rattle.protobuf_parse_model.specs.Environment.{CustomBytes}
use Rattle.protobuf_parse_elaboration.specs.OptionSets.{OptionSet, option_sets}
use Rattle.protobuf_parse_wire.specs.declared.kind.Kind.{Kind}
use Rattle.protobuf_parse_wire.specs.Kinds.{kind_of_field_type}
use Rattle.protobuf_parse_wire.specs.Trees as trees
use Rattle.protobuf_parse_wire.specs.Trees.{EntryTree, Entries}
use Rattle.protobuf_parse_wire.specs.Views.{WireItem, entries_of_list}
use Rattle.protobuf_parse_wire.specs.Wire.{Spells}
use Rattle.protobuf_parse_options.specs.OptionFields.{OptionScope, options_message, number_of_value}
use Rattle.protobuf_parse_options.specs.OptionFields.{part_field, constant_field, type_name_of}

-- the value under the number and the kind of the field
abbrev pub item_of : FieldDescriptor → EntryTree → List WireItem
item_of f value = map (λ (k : Kind). record { number = nat_abs f.number; kind = k; value = value })
    (option_to_list (kind_of_field_type f.type_))

-- a message under the number of the field
abbrev pub item_of_message : FieldDescriptor → List WireItem → List WireItem
item_of_message f inside = item_of f (trees.message (entries_of_list inside))

abbrev mutual
  -- what a constant gives to a field
  pub value_items : OptionScope → FieldDescriptor → ConstantSyntax → List WireItem
  value_items at f (integer z) = item_of f (trees.number z)
  value_items at f (truth b) = item_of f (trees.truth b)
  value_items at f (dotted name) =
      flat_map (λ (z : ℤ). item_of f (trees.number z))
      (option_to_list (number_of_value at.files (type_name_of f) name))
  value_items at f (string pieces) = item_of f (trees.bytes (unwrap_or (decode pieces) []))
  value_items at f (list cs) = list_items at f cs
  value_items at f (fields fs) = item_of_message f (field_items at (type_name_of f) fs)

  -- what the items of a list give, one by one
  pub list_items : OptionScope → FieldDescriptor → ConstantList → List WireItem
  list_items at f no_constants = []
  list_items at f (more_constants c cs) = value_items at f c ++ list_items at f cs

  -- what the fields of a message constant give to the message
  pub field_items : OptionScope → Text → ConstantFieldList → List WireItem
  field_items at message no_fields = []
  field_items at message (more_fields name c fs) =
      flat_map (λ (g : FieldDescriptor). value_items at g c)
      (option_to_list (constant_field at message name))
      ++ field_items at message fs

-- what a constant gives to the field that the parts lead to, from the message on
abbrev pub path_items : OptionScope → ConstantSyntax → Text → List OptionPartSyntax → List WireItem
path_items at value message [] = []
path_items at value message (p ∷ []) =
    flat_map (λ (g : FieldDescriptor). value_items at g value)
    (option_to_list (part_field at message p))
path_items at value message (p ∷ q ∷ ps) =
    flat_map
    (λ (g : FieldDescriptor). item_of_message g (path_items at value (type_name_of g) (q ∷ ps)))
    (option_to_list (part_field at message p))

-- what an option gives, where it is custom
abbrev pub named_items : OptionScope → Text → ConstantSyntax → OptionNameSyntax → List WireItem
named_items at message value (builtin name) = []
named_items at message value (custom parts) = path_items at value message parts

-- from the options message of its construct on
abbrev pub items_of_option : OptionScope → Construct → OptionSyntax → List WireItem
items_of_option at construct o = named_items at (options_message construct) o.value o.name

-- what the statements of one construct denote
abbrev pub denotes : OptionScope → Construct → List OptionSyntax → Entries
denotes at construct os = entries_of_list (flat_map (items_of_option at construct) os)

-- ---- the sets of options of a file

-- where a set of options is seen from, in a file that reaches the first files and sees the second
abbrev pub scope_of : (files visible : List FileDescriptor) → OptionSet → OptionScope
scope_of files visible s = record { files = files; visible = visible; scope = s.scope }

-- The bytes of each construct of the file spell what its custom options denote.
abbrev pub SpellsOptions : (files visible : List FileDescriptor) → FileSyntax → CustomBytes → Type 0
SpellsOptions files visible t spelled =
    (s : OptionSet) → Among (option_sets t) s
    → Spells (denotes (scope_of files visible s) s.construct s.statements)
    (spelled s.construct s.scope s.statements)
