use Rattle.std.specs.Prelude.{slice_get}
use Rattle.protobuf_parse_run.specs.Loading.{held_at}
use Rattle.protobuf_parse_run.proofs.Numbers.{gathered-next}
use Rattle.protobuf_parse_run.proofs.reach.gathered.Goals as goal

pub loop-file-preserved : goal.loop-file-preserved
loop-file-preserved c =
    gathered-next (λ n. held_at c.args.which (slice_get c.args.loaded.now.entries n)) _ _ _ _ _
    c.loop-file-test.true c.loop-file.invariant c.held_at.ensures
    c.in_ok-extend_from_slice.ensures.items
