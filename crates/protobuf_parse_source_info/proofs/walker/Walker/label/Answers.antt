use Rattle.protobuf_parse_source_info.specs.Fields.{label}
use Rattle.protobuf_parse_source_info.specs.InnerViews.{doing}
use Rattle.protobuf_parse_source_info.proofs.Steps.{takes_nothing}
use Rattle.protobuf_parse_source_info.proofs.walker.Walker.label.Goals as goal

pub returns-in-Some : goal.returns-in-Some
unfolding label
returns-in-Some c = rw c.in-Some.is c.token.ensures

pub returns-in-None : goal.returns-in-None
unfolding label
returns-in-None c = rw c.in-None.is (takes_nothing (doing c.args.self.now))
