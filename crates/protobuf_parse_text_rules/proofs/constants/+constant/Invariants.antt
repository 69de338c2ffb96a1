use Rattle.std.proofs.Common.{◌≡◌, false, map, take}
use Rattle.std.specs.List.{list_any}
use Rattle.protobuf_parse_syntax.specs.InnerViews.{constant_field_syntax}
use Rattle.protobuf_parse_syntax.specs.Trees.{constant_syntax}
use Rattle.protobuf_parse_text_rules.specs.Options.{has_dotted}
use Rattle.protobuf_parse_text_rules.proofs.Levels.{field_dotted}
use Rattle.protobuf_parse_text_rules.proofs.constants.+constant.Given as goal

abbrev pub invariant-any_dotted-items : goal.invariant-any_dotted-items
invariant-any_dotted-items l =
    list_any has_dotted (map constant_syntax (take l.item-index l.items)) ≡ false

abbrev pub invariant-any_field_dotted-fields : goal.invariant-any_field_dotted-fields
invariant-any_field_dotted-fields l =
    list_any field_dotted (map constant_field_syntax (take l.field-index l.fields)) ≡ false
