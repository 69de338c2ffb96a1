use Rattle.std.proofs.Common.{◌≡◌, map}
use Rattle.protobuf_parse_run.specs.Loading.{LoadedEntry}
use Rattle.protobuf_parse_run.proofs.run.descriptors.Given as goal

abbrev pub invariant-loop-file : goal.invariant-loop-file
invariant-loop-file l =
    l.descriptors.items ≡ map (λ (e : LoadedEntry). e.1.descriptor) l.yielded
