use Rattle.std.proofs.Common.{◌≡◌, map, drop}
use Rattle.std.specs.String.{string_bytes}
use Rattle.protobuf_parse_source_info.specs.Parts.{names}
use Rattle.protobuf_parse_source_info.specs.InnerViews.{doing, ran}
use Rattle.protobuf_parse_source_info.proofs.walker.Walker.names.Given as goal

abbrev pub invariant-items : goal.invariant-items
invariant-items l =
    ran (names l.path l.number l.index (map string_bytes (drop l._name-index l.names)))
    (doing l.self)
    ≡ ran (names l.path l.number l.first (map string_bytes l.names)) (doing l.initial.self)
