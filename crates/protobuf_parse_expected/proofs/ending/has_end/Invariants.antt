use Rattle.std.proofs.Common.{◌≡◌, ◌++◌, string_bytes}
use Rattle.protobuf_parse_lexer.specs.Text.{Bytes}
use Rattle.protobuf_parse_expected.proofs.ending.has_end.Given as goal

abbrev pub invariant-loop : goal.invariant-loop
invariant-loop l = (more : Bytes) × (string_bytes l.longer ≡ l.text ++ more)
