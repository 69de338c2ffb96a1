-- What is written so far says the pieces so far.
use Rattle.std.specs.Prelude.{string_bytes}
use Rattle.std.proofs.Common.{map, take}
use Rattle.std.specs.Fmt.{HasWritten, IsPlainFormatter}
use Rattle.protobuf_parse_syntax.specs.Formats.{string_text}
use Rattle.protobuf_parse_syntax.proofs.tree.constant.write_string.Given as goal

abbrev pub invariant-loop-i : goal.invariant-loop-i
invariant-loop-i g l =
    IsPlainFormatter l.fn.f
    → HasWritten g.W.Write.write_str_gives l.fn.f
    (string_text (map string_bytes (take l.i l.string.pieces.items))) l.f
