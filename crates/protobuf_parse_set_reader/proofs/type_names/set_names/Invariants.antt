use Rattle.std.proofs.Common.{◌≡◌, map, Ok}
use Rattle.protobuf_parse_set_reader.specs.Bodies.{type_name_view}
use Rattle.protobuf_parse_set_reader.specs.Values.{all_of, numbered, part_in}
use Rattle.protobuf_parse_set_reader.specs.TypeNames.{file_names}
use Rattle.protobuf_parse_set_reader.proofs.Going.{first_ones}
use Rattle.protobuf_parse_set_reader.proofs.type_names.set_names.Given as goal

abbrev pub invariant-loop-record : goal.invariant-loop-record
invariant-loop-record l =
    all_of (part_in file_names) (numbered 1 (first_ones l.record-items l.record-index))
    ≡ Ok (map type_name_view l.all.items)
