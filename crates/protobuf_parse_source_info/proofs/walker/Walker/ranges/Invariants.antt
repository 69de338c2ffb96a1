use Rattle.std.proofs.Common.{◌≡◌, map, drop}
use Rattle.protobuf_parse_syntax.specs.Trees.{range_syntax}
use Rattle.protobuf_parse_source_info.specs.Parts.{ranges}
use Rattle.protobuf_parse_source_info.specs.InnerViews.{doing, ran}
use Rattle.protobuf_parse_source_info.proofs.walker.Walker.ranges.Given as goal

abbrev pub invariant-items : goal.invariant-items
invariant-items l =
    ran (ranges l.path l.number l.index (map range_syntax (drop l._range-index l.ranges)))
    (doing l.self)
    ≡ ran (ranges l.path l.number l.first (map range_syntax l.ranges)) (doing l.initial.self)
