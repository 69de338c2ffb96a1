use Rattle.std.proofs.Common.{◌≡◌, ◌++◌, map, take, string_bytes}
use Rattle.protobuf_parse_elaboration.proofs.constructs.reserved.push_clones.Given as goal

abbrev pub invariant-loop-name : goal.invariant-loop-name
invariant-loop-name l = map string_bytes l.names.items ≡ map string_bytes l.initial.names.items
    ++ map string_bytes (take l.name-index l.more)
