use Rattle.std.proofs.Common.{◌≡◌, map, drop}
use Rattle.std.specs.List.{list_any}
use Rattle.protobuf_parse_syntax.specs.Trees.{range_syntax}
use Rattle.protobuf_parse_elaboration.specs.Messages.{is_endless}
use Rattle.protobuf_parse_elaboration.proofs.constructs.reserved.has_endless.Given as goal

abbrev pub invariant-loop-range : goal.invariant-loop-range
invariant-loop-range l =
    list_any is_endless (map range_syntax l.ranges)
    ≡ list_any is_endless (map range_syntax (drop l.range-index l.ranges))
