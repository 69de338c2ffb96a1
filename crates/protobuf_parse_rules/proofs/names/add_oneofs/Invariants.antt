use Rattle.std.proofs.Common.{◌≡◌, ◌++◌, map, take}
use Rattle.protobuf_parse_model.specs.Descriptors.{oneof_view}
use Rattle.protobuf_parse_rules.specs.KnownNames.{named_view}
use Rattle.protobuf_parse_rules.specs.Names.{oneofs_named}
use Rattle.protobuf_parse_rules.proofs.names.add_oneofs.Given as goal

abbrev pub invariant-oneofs : goal.invariant-oneofs
invariant-oneofs l = map named_view l.names.items ≡ map named_view l.fn.names.items
    ++ oneofs_named l.file l.scope (map oneof_view (take l.oneof-index l.oneofs))
