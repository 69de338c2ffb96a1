use Rattle.std.proofs.Common.{◌≡◌, ◌++◌, map, take}
use Rattle.protobuf_parse_syntax.specs.Trees.{range_syntax}
use Rattle.protobuf_parse_model.specs.Descriptors.{reserved_range_view}
use Rattle.protobuf_parse_elaboration.specs.Messages.{exclusive}
use Rattle.protobuf_parse_elaboration.proofs.constructs.reserved.push_exclusive.Given as goal

abbrev pub invariant-loop-range : goal.invariant-loop-range
invariant-loop-range l =
    map reserved_range_view l.found.items ≡ map reserved_range_view l.initial.found.items
    ++ map exclusive (map range_syntax (take l.range-index l.ranges))
