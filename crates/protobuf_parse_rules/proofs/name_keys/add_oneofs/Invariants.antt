-- The keys so far are those of the names so far.
use Rattle.std.proofs.Common.{◌≡◌, ◌++◌, map, take}
use Rattle.protobuf_parse_model.specs.Descriptors.{oneof_view}
use Rattle.protobuf_parse_rules.specs.Keys.{oneof_keys}
use Rattle.protobuf_parse_rules.proofs.name_keys.add_oneofs.Given as goal

abbrev pub invariant-oneofs : goal.invariant-oneofs
invariant-oneofs l = l.keys.items
    ≡ l.fn.keys.items ++ oneof_keys l.inside (map oneof_view (take l.oneof-index l.oneofs))
