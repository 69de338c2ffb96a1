-- What is written so far says the characters so far.
use Rattle.std.specs.Prelude.{encode_utf8_all}
use Rattle.std.proofs.Common.{◌≡◌, false}
use Rattle.std.specs.Fmt.{HasWritten, IsPlainFormatter}
use Rattle.protobuf_parse_syntax.specs.Formats.{quotes_escaped}
use Rattle.protobuf_parse_syntax.proofs.Formats.{takes_next}
use Rattle.protobuf_parse_syntax.proofs.tree.constant.write_escaped.Given as goal

abbrev pub invariant-loop-character : goal.invariant-loop-character
invariant-loop-character g l = record {
  taken : l.taken ≡ takes_next false (encode_utf8_all l.yielded);
  written : IsPlainFormatter l.fn.f
      → HasWritten g.W.Write.write_str_gives l.fn.f
      (quotes_escaped false (encode_utf8_all l.yielded)) l.f;
}
