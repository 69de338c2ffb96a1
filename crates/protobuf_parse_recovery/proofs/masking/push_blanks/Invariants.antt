use Rattle.std.proofs.Common.{◌≡◌, ◌++◌, string_bytes, take}
use Rattle.protobuf_parse_recovery.specs.Masking.{blanks}
use Rattle.protobuf_parse_recovery.proofs.masking.push_blanks.Given as goal

abbrev pub invariant-loop-byte : goal.invariant-loop-byte
invariant-loop-byte l =
    string_bytes l.out ≡ string_bytes l.initial.out ++ blanks (take l.byte-index l.bytes)
