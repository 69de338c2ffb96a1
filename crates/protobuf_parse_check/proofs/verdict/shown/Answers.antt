use Rattle.std.proofs.Common.{◌∙◌, sym}
use Rattle.protobuf_parse_model.specs.Faults.{found}
use Rattle.protobuf_parse_check.proofs.Plainly.{nothing-there, shows-all}
use Rattle.protobuf_parse_check.proofs.verdict.shown.Goals as goal

pub returns-then-is_empty : goal.returns-then-is_empty
returns-then-is_empty c =
    shows-all c.args.misses c.args.repeats.now (found c.args.faults) c.if-not-misses.true
    (nothing-there c.args.repeats.now (sym c.is_empty.ensures ∙ c.if-is_empty.true))
