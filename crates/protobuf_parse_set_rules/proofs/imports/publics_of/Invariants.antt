use Rattle.std.proofs.Common.{◌≡◌, map, take}
use Rattle.protobuf_parse_model.specs.Descriptors.{file_view}
use Rattle.protobuf_parse_set_rules.specs.Sights as spec
use Rattle.protobuf_parse_set_rules.specs.Held.{lists_view, positions_view}
use Rattle.protobuf_parse_set_rules.proofs.imports.publics_of.Given as goal

abbrev pub invariant-files : goal.invariant-files
invariant-files l = lists_view l.publics.items
    ≡ spec.publics_of (positions_view l.paths) (map file_view (take l.position l.files))
