use Rattle.protobuf_parse_source_info.specs.Fields.{extendee}
use Rattle.protobuf_parse_source_info.specs.InnerViews.{doing}
use Rattle.protobuf_parse_source_info.proofs.Steps.{takes_nothing}
use Rattle.protobuf_parse_source_info.proofs.walker.Walker.extendee.Goals as goal

pub returns-in-Some : goal.returns-in-Some
unfolding extendee
returns-in-Some c = rw c.in-Some.is c.again.ensures

pub returns-in-None : goal.returns-in-None
unfolding extendee
returns-in-None c = rw c.in-None.is (takes_nothing (doing c.args.self.now))
