use Rattle.protobuf_parse_source_info.specs.Parts.{option_statement}
use Rattle.protobuf_parse_source_info.proofs.Steps.{takes_located}
use Rattle.protobuf_parse_source_info.proofs.walker.Walker.option.Goals as goal

pub returns : goal.returns
unfolding option_statement
returns c =
    takes_located _ _ c.in_ok-all.ensures.at c.in_ok-all.ensures.opened c.in_ok-option_of.ensures
    c.close.ensures
