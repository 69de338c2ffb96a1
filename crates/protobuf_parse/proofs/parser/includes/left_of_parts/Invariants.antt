-- What is left by the includes that follow is what is left by all.
use Rattle.std.proofs.Common.{◌≡◌, drop, map}
use Rattle.std.specs.Prelude.{string_bytes}
use Rattle.protobuf_parse.specs.Includes.{left_of}
use Rattle.protobuf_parse.proofs.parser.includes.left_of_parts.Given as goal

abbrev pub invariant-loop-include : goal.invariant-loop-include
invariant-loop-include l =
    left_of (map string_bytes (drop l.include-index l.includes)) l.input
    ≡ left_of (map string_bytes l.includes) l.input
