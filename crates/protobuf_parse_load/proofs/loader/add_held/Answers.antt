use Rattle.std.proofs.Common.{ap}
use Rattle.protobuf_parse_load.specs.declared.step.LoadStep.TheVariants as step
use Rattle.protobuf_parse_load.specs.Steps.{held}
use Rattle.protobuf_parse_load.proofs.Adding.{adds-ok}
use Rattle.protobuf_parse_load.proofs.loader.add_held.Goals as goal

pub returns : goal.returns
returns c =
    adds-ok c.push.result c.args.steps.now.list c.push.new.self.list
    (step.Held c.args.input c.in_ok-path.path c.args.read)
    (held c.args.input c.args.path.now c.args.read) c.push.ensures.ok
    (ap (λ z. held c.args.input z c.args.read) c.in_ok-path.ensures.ok)
