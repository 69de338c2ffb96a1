use Rattle.std.proofs.Common.{◌≡◌, ◌++◌}
use Rattle.protobuf_parse_wire.specs.Encoded.{varint_of}
use Rattle.protobuf_parse_option_paths.proofs.bytes.put_varint.Given as goal

-- The varint of the rest completes the number's.
abbrev pub invariant-groups : goal.invariant-groups
invariant-groups l = l.out.items ++ varint_of l.rest ≡ l.fn.out.items ++ varint_of l.number

abbrev pub decreases-groups : goal.decreases-groups
decreases-groups l = l.rest
