use Rattle.std.proofs.Common.{◌≡◌, take, flat_map}
use Rattle.protobuf_parse_wire.specs.Encoded.{varint_of}
use Rattle.protobuf_parse_option_paths.proofs.bytes.path_numbers.Given as goal

abbrev pub invariant-numbers : goal.invariant-numbers
invariant-numbers l = l.out.items ≡ flat_map varint_of (take l.number-index l.path)
