use Rattle.std.proofs.Common.{◌≡◌, map, string_bytes, take}
use Rattle.protobuf_parse_set_rules.specs.Sights as spec
use Rattle.protobuf_parse_set_rules.specs.Held.{positions_view}
use Rattle.protobuf_parse_set_rules.proofs.imports.files_before.Given as goal

abbrev pub invariant-wanted : goal.invariant-wanted
invariant-wanted l = l.found.items ≡ spec.files_before (positions_view l.paths) l.position
    (map string_bytes (take l.path-index l.wanted))
