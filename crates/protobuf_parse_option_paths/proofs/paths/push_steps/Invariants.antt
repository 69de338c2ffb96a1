use Rattle.std.proofs.Common.{◌≡◌, ◌++◌, map, take}
use Rattle.protobuf_parse_option_paths.specs.declared.names.Step.{Step}
use Rattle.protobuf_parse_option_paths.proofs.paths.push_steps.Given as goal

abbrev pub invariant-each : goal.invariant-each
invariant-each l = l.path.items
    ≡ l.fn.path.items ++ map (λ (s : Step). s.number) (take l.step-index l.steps)
