use Rattle.protobuf_parse_source_info.specs.Files.{stream_word}
use Rattle.protobuf_parse_source_info.specs.InnerViews.{doing}
use Rattle.protobuf_parse_source_info.proofs.Steps.{takes_nothing}
use Rattle.protobuf_parse_source_info.proofs.walker.Walker.stream_word.Goals as goal

pub returns-then-stands : goal.returns-then-stands
unfolding stream_word
returns-then-stands c = rw c.if-stands.true c.token.ensures

pub returns : goal.returns
unfolding stream_word
returns c = rw c.if-stands.false (takes_nothing (doing c.args.self.now))
