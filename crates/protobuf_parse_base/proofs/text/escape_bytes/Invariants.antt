-- The text so far is that of the bytes so far.
use Rattle.std.proofs.Common.{◌≡◌, take}
use Rattle.std.specs.List.{flat_map}
use Rattle.std.specs.String.{string_bytes}
use Rattle.protobuf_parse_base.specs.Escapes.{escaped_byte}
use Rattle.protobuf_parse_base.proofs.text.escape_bytes.Given as goal

abbrev pub invariant-loop-byte : goal.invariant-loop-byte
invariant-loop-byte l = string_bytes l.escaped ≡ flat_map escaped_byte (take l.byte-index l.bytes)
