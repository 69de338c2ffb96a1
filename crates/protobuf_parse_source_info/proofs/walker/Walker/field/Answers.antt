use Rattle.protobuf_parse_source_info.specs.Fields.{field_walk}
use Rattle.std.proofs.Common.{◌∙◌}
use Rattle.protobuf_parse_source_info.proofs.Steps.{takes_leaf}
use Rattle.protobuf_parse_source_info.proofs.walker.Walker.field.Goals as goal

pub returns : goal.returns
unfolding field_walk
returns c =
    let own = c.as_slice-own.ensures.value ∙ c.in_ok-own.ensures in
    takes_leaf _ c.in_ok-mark.ensures c.in_ok-at.ensures.at c.in_ok-at.ensures.opened
    (rw own at c.in_ok-field_at.ensures) c.head_ends.ensures c.close.ensures
