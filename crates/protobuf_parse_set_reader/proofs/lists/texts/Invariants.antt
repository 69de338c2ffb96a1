use Rattle.std.proofs.Common.{◌≡◌, map, string_bytes, Ok}
use Rattle.protobuf_parse_set_reader.specs.Values.{all_of, alone, numbered, text_in}
use Rattle.protobuf_parse_set_reader.proofs.Going.{first_ones}
use Rattle.protobuf_parse_set_reader.proofs.lists.texts.Given as goal

abbrev pub invariant-loop-record : goal.invariant-loop-record
invariant-loop-record l =
    all_of (alone text_in) (numbered l.number (first_ones l.record-items l.record-index))
    ≡ Ok (map string_bytes l.all.items)
