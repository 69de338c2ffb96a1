use Rattle.std.proofs.Common.{◌≡◌, ◌++◌, flat_map, map, take}
use Rattle.protobuf_parse_model.specs.Descriptors.{field_view}
use Rattle.protobuf_parse_rules.specs.Wanted.{extendee_keys}
use Rattle.protobuf_parse_rules.proofs.extendees.add_extendees.Given as goal

abbrev pub invariant-extensions : goal.invariant-extensions
invariant-extensions l = l.keys.items ≡ l.fn.keys.items
    ++ flat_map extendee_keys (map field_view (take l.extension-index l.extensions))
