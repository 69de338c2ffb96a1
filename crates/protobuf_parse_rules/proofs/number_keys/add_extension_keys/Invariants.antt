use Rattle.std.proofs.Common.{◌≡◌, ◌++◌, map, take}
use Rattle.std.specs.List.{flat_map}
use Rattle.protobuf_parse_model.specs.Descriptors.{field_view}
use Rattle.protobuf_parse_rules.specs.Keys.{extension_keys}
use Rattle.protobuf_parse_rules.proofs.number_keys.add_extension_keys.Given as goal

abbrev pub invariant-extensions : goal.invariant-extensions
invariant-extensions l = l.keys.items ≡ l.fn.keys.items
    ++ flat_map extension_keys (map field_view (take l.extension-index l.extensions))
