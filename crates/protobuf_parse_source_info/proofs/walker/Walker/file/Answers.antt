use Rattle.protobuf_parse_source_info.specs.Files.{file_walk}
use Rattle.protobuf_parse_source_info.proofs.Steps.{takes_then, takes_located}
use Rattle.protobuf_parse_source_info.proofs.walker.Walker.file.Goals as goal

pub returns : goal.returns
unfolding file_walk
returns c =
    takes_located _ _ c.in_ok-at.ensures.at c.in_ok-at.ensures.opened
    (takes_then c.in_ok-version.ensures c.in_ok-statements.ensures) c.close.ensures
