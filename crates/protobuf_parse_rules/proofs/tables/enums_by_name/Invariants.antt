use Rattle.std.proofs.Common.{map, take}
use Rattle.protobuf_parse_rules.specs.Known.{Finds, enum_name, known_enum, owned_enum}
use Rattle.protobuf_parse_rules.proofs.tables.enums_by_name.Given as goal

abbrev pub invariant-enums : goal.invariant-enums
invariant-enums l =
    Finds known_enum enum_name l.known (map owned_enum (take l.each-index l.enums))
