use Rattle.std.proofs.Common.{◌≡◌, map, Ok}
use Rattle.protobuf_parse_set_reader.specs.Bodies.{type_name_view}
use Rattle.protobuf_parse_set_reader.specs.Values.{all_of, alone, numbered, part_in}
use Rattle.protobuf_parse_set_reader.specs.TypeNames.{enum_name}
use Rattle.protobuf_parse_set_reader.proofs.Going.{first_ones}
use Rattle.protobuf_parse_set_reader.proofs.type_names.enum_names.Given as goal

abbrev pub invariant-loop-record : goal.invariant-loop-record
invariant-loop-record l =
    all_of (alone (part_in (enum_name l.scope)))
    (numbered l.number (first_ones l.record-items l.record-index))
    ≡ Ok (map type_name_view l.all.items)
