use Rattle.std.proofs.Common.{◌≡◌, ◌++◌, flat_map, map, string_bytes, take}
use Rattle.protobuf_parse_set_rules.specs.Rules.{import_breaches}
use Rattle.protobuf_parse_set_rules.specs.Held.{positions_view, site_of}
use Rattle.protobuf_parse_set_rules.specs.Views.{told}
use Rattle.protobuf_parse_set_rules.proofs.files.check_imports.Given as goal

abbrev pub invariant-imports : goal.invariant-imports
invariant-imports l = told l.found ≡ told l.fn.found
    ++ flat_map (import_breaches (positions_view l.paths) l.position (site_of l.at))
    (map string_bytes (take l.path-index l.imports))
