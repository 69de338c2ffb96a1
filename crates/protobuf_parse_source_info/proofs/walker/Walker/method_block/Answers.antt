use Rattle.protobuf_parse_source_info.specs.Files.{method_block}
use Rattle.protobuf_parse_source_info.specs.InnerViews.{doing}
use Rattle.protobuf_parse_source_info.proofs.Steps.{takes_then, takes_nothing}
use Rattle.protobuf_parse_source_info.proofs.walker.Walker.method_block.Goals as goal

pub returns-then-not-stands : goal.returns-then-not-stands
unfolding method_block
returns-then-not-stands c = rw c.if-not-stands.true (takes_nothing (doing c.args.self.now))

pub returns : goal.returns
unfolding method_block
returns c =
    rw c.if-not-stands.false (takes_then c.in_ok-option_block.ensures c.take.ensures)
