use Rattle.protobuf_parse_source_info.specs.Files.{visibility}
use Rattle.protobuf_parse_source_info.specs.InnerViews.{doing}
use Rattle.protobuf_parse_source_info.proofs.Steps.{takes_nothing}
use Rattle.protobuf_parse_source_info.proofs.walker.Walker.visibility.Goals as goal

pub returns-in-Default : goal.returns-in-Default
unfolding visibility
returns-in-Default c = rw c.in-Default.is (takes_nothing (doing c.args.self.now))

pub returns-in-Public : goal.returns-in-Public
unfolding visibility
returns-in-Public c = rw c.in-Public.is c.token.ensures

pub returns-in-Weak : goal.returns-in-Weak
unfolding visibility
returns-in-Weak c = rw c.in-Weak.is c.token-in-Weak.ensures
