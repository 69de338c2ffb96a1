use Rattle.protobuf_parse_source_info.specs.Files.{package_walk}
use Rattle.protobuf_parse_source_info.proofs.Steps.{takes_then, takes_leaf}
use Rattle.protobuf_parse_source_info.proofs.walker.Walker.package.Goals as goal

pub returns : goal.returns
unfolding package_walk
returns c =
    takes_leaf _ c.in_ok-mark.ensures c.in_ok-at.ensures.at c.in_ok-at.ensures.opened
    (takes_then (takes_then c.take.ensures c.name.ensures) c.take-2.ensures) c.head_ends.ensures
    c.close.ensures
