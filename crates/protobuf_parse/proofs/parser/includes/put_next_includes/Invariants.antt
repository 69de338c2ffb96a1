use Rattle.std.proofs.Common.{◌≡◌, ◌++◌, map, take, flat_map}
use Rattle.std.specs.Prelude.{string_bytes}
use Rattle.protobuf_parse.specs.Includes.{next_include}
use Rattle.protobuf_parse.proofs.parser.includes.put_next_includes.Given as goal

abbrev pub invariant-loop-include : goal.invariant-loop-include
invariant-loop-include l =
    string_bytes l.text ≡ string_bytes l.fn.text
    ++ flat_map next_include (map string_bytes (take l.include-index l.includes))
