use Rattle.std.proofs.Common.{sym}
use Rattle.protobuf_parse_source_info.specs.InnerViews.{doing}
use Rattle.protobuf_parse_source_info.proofs.Steps.{takes_nothing}
use Rattle.protobuf_parse_source_info.proofs.Runs.{next_then, next_else}
use Rattle.protobuf_parse_source_info.proofs.walker.Walker.take_if.Goals as goal

pub returns-then-sees : goal.returns-then-sees
returns-then-sees c = next_then c.args.word.now _ (sym c.if-sees.ensures) c.take.ensures

pub returns-else-sees : goal.returns-else-sees
returns-else-sees c =
    next_else c.args.word.now _ (sym c.if-sees.ensures) (takes_nothing (doing c.args.self.now))
