use Rattle.std.proofs.Common.{◌≡◌, flat_map, map, option_to_list, string_bytes, take}
use Rattle.protobuf_parse_set_rules.specs.Positions.{at_index}
use Rattle.protobuf_parse_set_rules.specs.Sights.{files_before}
use Rattle.protobuf_parse_set_rules.specs.Held.{positions_view}
use Rattle.protobuf_parse_set_rules.proofs.imports.publics_at.Given as goal

abbrev pub invariant-publics : goal.invariant-publics
invariant-publics l = l.found.items ≡ files_before (positions_view l.paths) l.position
    (flat_map (λ i. option_to_list (at_index (map string_bytes l.file.dependency.items) i))
    (take l.index-index l.file.public_dependency.items))
