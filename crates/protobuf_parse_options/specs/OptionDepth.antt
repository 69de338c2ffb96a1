-- How deep the messages stand in what custom options denote.
use Rattle.std.specs.Prelude.{ℕ, suc, ◌≤◌, max, List, [], length}
use Rattle.protobuf_parse_lexer.specs.Text.{Bytes}
use Rattle.protobuf_parse_syntax.specs.Trees.{ConstantSyntax, list, fields, ConstantList}
use Rattle.protobuf_parse_syntax.specs.Trees.{no_constants, more_constants, ConstantFieldList}
use Rattle.protobuf_parse_syntax.specs.Trees.{no_fields, more_fields, OptionPartSyntax}
use Rattle.protobuf_parse_syntax.specs.Trees.{OptionNameSyntax, builtin, custom, OptionSyntax}
use Rattle.protobuf_parse_syntax.specs.Trees.{FileSyntax}
use Rattle.protobuf_parse_syntax.specs.Parsing.{HasTree}
use Rattle.protobuf_parse_model.specs.Faults.{Among}
use Rattle.protobuf_parse_model.specs.declared.customs.Construct.{Construct}
use Rattle.protobuf_parse_elaboration.specs.OptionSets.{OptionSet, option_sets}
use Rattle.protobuf_parse_wire.specs.Law.{depth}
use Rattle.protobuf_parse_options.specs.OptionFields.{OptionScope}
use Rattle.protobuf_parse_options.specs.CustomOptions.{denotes}

abbrev mutual
  -- how many message constants stand inside one another, the outer one too
  pub message_levels : ConstantSyntax → ℕ
  message_levels (list cs) = list_levels cs
  message_levels (fields fs) = suc (field_levels fs)
  message_levels _ = 0

  -- of the items of a list
  pub list_levels : ConstantList → ℕ
  list_levels no_constants = 0
  list_levels (more_constants c cs) = max (message_levels c) (list_levels cs)

  -- of the fields of a message constant
  pub field_levels : ConstantFieldList → ℕ
  field_levels no_fields = 0
  field_levels (more_fields name c fs) = max (message_levels c) (field_levels fs)

-- the parts of a custom option's name
abbrev pub name_parts : OptionNameSyntax → List OptionPartSyntax
name_parts (builtin name) = []
name_parts (custom parts) = parts

-- The name has at most 100 parts, and at most 100 message constants stand inside one another.
pub record OptionIsShallow (o : OptionSyntax) : Type 0 where
  pub name : length (name_parts o.name) ≤ 100
  pub value : message_levels o.value ≤ 100

-- What such statements denote has at most 200 messages inside one another, so that the reader never
-- meets too many.
abbrev pub NeverTooDeep : Type 0
NeverTooDeep =
    (at : OptionScope) (construct : Construct) (os : List OptionSyntax)
    → ((o : OptionSyntax) → Among os o → OptionIsShallow o)
    → depth (denotes at construct os) ≤ 200

-- So it is in the tree of every text, for each set of its options, whatever files are at hand.
abbrev pub TextsAreNotTooDeep : Type 0
TextsAreNotTooDeep =
    (text : Bytes) (t : FileSyntax) → HasTree text t
    → (s : OptionSet) → Among (option_sets t) s
    → (at : OptionScope) → depth (denotes at s.construct s.statements) ≤ 200
