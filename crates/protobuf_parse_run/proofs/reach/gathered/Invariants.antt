use Rattle.std.proofs.Common.{◌≡◌, flat_map, take}
use Rattle.std.specs.Prelude.{slice_get}
use Rattle.protobuf_parse_run.specs.Loading.{held_at}
use Rattle.protobuf_parse_run.proofs.reach.gathered.Given as goal

abbrev pub invariant-loop-file : goal.invariant-loop-file
invariant-loop-file l = l.numbers.items
    ≡ flat_map (λ n. held_at l.which (slice_get l.loaded.entries n)) (take l.file-index l.files)
