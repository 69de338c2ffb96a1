use Rattle.std.proofs.Common.{◌≡◌, map, take}
use Rattle.protobuf_parse_model.specs.Descriptors.{file_view}
use Rattle.protobuf_parse_set_rules.specs.Positions.{by_position}
use Rattle.protobuf_parse_set_rules.specs.Rules.{file_breaches}
use Rattle.protobuf_parse_set_rules.specs.Held.{known_view}
use Rattle.protobuf_parse_set_rules.specs.Views.{told}
use Rattle.protobuf_parse_set_rules.proofs.files.check_files.Given as goal

abbrev pub invariant-files : goal.invariant-files
invariant-files l = told l.found
    ≡ by_position (file_breaches (known_view l.known)) 0 (map file_view (take l.position l.files))
