-- The parts that are left have the fault of all.
use Rattle.std.proofs.Common.{◌≡◌, length, drop}
use Rattle.protobuf_parse_base.specs.Paths.{first_fault, slash_parts}
use Rattle.protobuf_parse_base.proofs.proto_path.check.fault_of_parts.Given as goal

abbrev pub invariant-loop-part : goal.invariant-loop-part
invariant-loop-part l = first_fault (drop (length l.yielded) (slash_parts l.text))
    ≡ first_fault (slash_parts l.text)
