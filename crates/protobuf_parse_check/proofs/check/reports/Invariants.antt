use Rattle.std.proofs.Common.{◌≡◌, ◌++◌}
use Rattle.protobuf_parse_check.specs.SoFar.{reports_of}
use Rattle.protobuf_parse_check.proofs.check.reports.Given as goal

abbrev pub invariant-loop-verdict : goal.invariant-loop-verdict
invariant-loop-verdict l =
    (l.yielded ++ l.verdict-iterator.rest.items ≡ l.fn.judge.verdicts.items)
    × (l.reports.items ++ reports_of l.entries.rest.items l.verdict-iterator.rest.items
    ≡ reports_of l.fn.judge.loaded.entries l.fn.judge.verdicts.items)
