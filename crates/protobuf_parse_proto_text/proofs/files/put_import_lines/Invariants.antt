use Rattle.std.proofs.Common.{◌≡◌, ◌++◌, drop, map}
use Rattle.std.specs.Prelude.{string_bytes}
use Rattle.protobuf_parse_proto_text.specs.ProtoText.{import_lines}
use Rattle.protobuf_parse_proto_text.proofs.files.put_import_lines.Given as goal

-- what is written, and the lines of the imports that are left, are all of it
abbrev pub invariant-loop-i : goal.invariant-loop-i
invariant-loop-i l =
    string_bytes l.fn.text ++ import_lines l.fn.public l.fn.weak 0 (map string_bytes l.paths)
    ≡ string_bytes l.text ++ import_lines l.fn.public l.fn.weak l.i-counter
    (map string_bytes (drop l.i-counter l.paths))
