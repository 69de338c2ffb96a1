-- The paths so far, and then the fronts of the next one, are the fronts of the whole path.
use Rattle.std.proofs.Common.{◌≡◌, ◌++◌, map}
use Rattle.protobuf_parse_base.specs.Names.{fronts}
use Rattle.protobuf_parse_base.specs.NameViews.{abs_ref_idents}
use Rattle.protobuf_parse_base.proofs.Fronts.{fronts_of, count_of}
use Rattle.protobuf_parse_base.proofs.names.absolute.ProtobufAbsPathRef.self_and_parents.Given as goal

abbrev pub invariant-loop-next : goal.invariant-loop-next
invariant-loop-next l = map abs_ref_idents l.paths.items ++ fronts_of abs_ref_idents l.next
    ≡ fronts (abs_ref_idents l.initial.self)

abbrev pub decreases-loop-next : goal.decreases-loop-next
decreases-loop-next l = count_of abs_ref_idents l.next
