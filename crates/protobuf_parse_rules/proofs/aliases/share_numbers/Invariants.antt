use Rattle.std.proofs.Common.{◌≡◌, List, map, take}
use Rattle.std.specs.List.{list_any}
use Rattle.protobuf_parse_model.specs.Descriptors.{EnumValueDescriptor, enum_value_view}
use Rattle.protobuf_parse_rules.specs.Covers.{AreEnds, point_of}
use Rattle.protobuf_parse_rules.specs.Enums.{in_closed_range, is_shared}
use Rattle.protobuf_parse_rules.proofs.aliases.share_numbers.Given as goal

abbrev pub invariant-values : goal.invariant-values
invariant-values l = (all : List EnumValueDescriptor)
    → AreEnds in_closed_range (map point_of all) l.numbers.firsts.items l.numbers.lasts.items
    → l.shared ≡ list_any (is_shared all) (map enum_value_view (take l.value-index l.values))
