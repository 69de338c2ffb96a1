use Rattle.std.proofs.Common.{◌≡◌, ◌++◌, flat_map, take}
use Rattle.protobuf_parse_set_rules.specs.Rules.{index_breaches}
use Rattle.protobuf_parse_set_rules.specs.Held.{site_of}
use Rattle.protobuf_parse_set_rules.specs.Views.{told}
use Rattle.protobuf_parse_set_rules.proofs.files.check_indexes.Given as goal

abbrev pub invariant-indexes : goal.invariant-indexes
invariant-indexes l = told l.found ≡ told l.fn.found
    ++ flat_map (index_breaches l.count (site_of l.at))
    (take l.index-index l.indexes)
