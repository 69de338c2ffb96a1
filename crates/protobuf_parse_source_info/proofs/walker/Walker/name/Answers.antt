use Rattle.protobuf_parse_source_info.specs.Parts.{name}
use Rattle.protobuf_parse_source_info.proofs.Steps.{takes_then}
use Rattle.protobuf_parse_source_info.proofs.walker.Walker.name.Goals as goal

pub returns : goal.returns
unfolding name
returns c = takes_then (takes_then c.take_if.ensures c.take.ensures) c.take_dots.ensures
