use Rattle.protobuf_parse_base.proofs.Undone.{absolute_after_relative}
use Rattle.protobuf_parse_base.proofs.names.laws.into_absolute_undoes_to_root_rel.Goals as goal

pub returns : goal.returns
returns c = absolute_after_relative
