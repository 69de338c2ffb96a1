use Rattle.protobuf_parse_source_info.specs.Parts.{default_item}
use Rattle.protobuf_parse_source_info.proofs.Steps.{takes_then}
use Rattle.protobuf_parse_source_info.proofs.walker.Walker.default_item.Goals as goal

pub returns : goal.returns
unfolding default_item
returns c = takes_then (takes_then c.take.ensures c.take-2.ensures) c.in_ok-rest_of_item.ensures
