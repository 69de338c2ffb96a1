use Rattle.std.proofs.Common.{◌≡◌, false, map, take}
use Rattle.std.specs.List.{list_any}
use Rattle.protobuf_parse_model.specs.Descriptors.{field_view}
use Rattle.protobuf_parse_rules.specs.Wanted.{is_wanted_extension}
use Rattle.protobuf_parse_rules.proofs.number_keys.has_wanted_extension.Given as goal

abbrev pub invariant-extensions : goal.invariant-extensions
invariant-extensions l = list_any (is_wanted_extension l.wanted.sorted.items)
    (map field_view (take l.extension-index l.extensions)) ≡ false
