use Rattle.protobuf_parse_descriptor_set.proofs.Joining.{spelled}
use Rattle.protobuf_parse_descriptor_set.proofs.source_info.descriptor_set_with_info.Goals as goal

pub returns-clause-spells : goal.returns-clause-spells
returns-clause-spells c = spelled _ _ _ c.in_ok-out.ensures.items c.in_ok-put_parts.ensures
