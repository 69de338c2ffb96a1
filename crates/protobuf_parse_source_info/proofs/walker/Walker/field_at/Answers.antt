use Rattle.protobuf_parse_source_info.specs.Fields.{field_parts}
use Rattle.protobuf_parse_source_info.proofs.Steps.{takes_then}
use Rattle.protobuf_parse_source_info.proofs.walker.Walker.field_at.Goals as goal

pub returns : goal.returns
unfolding field_parts
returns c =
    takes_then (takes_then (takes_then (takes_then (takes_then c.in_ok-extendee.ensures
    c.in_ok-label.ensures) c.in_ok-type_.ensures) c.in_ok-named_number.ensures)
    (rw c.deref.ensures.value at c.in_ok-options.ensures)) c.take.ensures
