use Rattle.std.proofs.Common.{◌≡◌, map, take}
use Rattle.protobuf_parse_set_rules.specs.Types.{type_name}
use Rattle.protobuf_parse_set_rules.specs.Held.{texts_of, type_view}
use Rattle.protobuf_parse_set_rules.proofs.types.names_of.Given as goal

abbrev pub invariant-types : goal.invariant-types
invariant-types l =
    texts_of l.names.items ≡ map type_name (map type_view (take l.each-index l.types))
