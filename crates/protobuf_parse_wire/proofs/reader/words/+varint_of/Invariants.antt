use Rattle.protobuf_parse_wire.proofs.reader.words.+varint_of.Given as goal

abbrev pub decreases-varint_of : goal.decreases-varint_of
decreases-varint_of l = l.room
