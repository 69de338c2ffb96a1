use Rattle.protobuf_parse_base.proofs.Undone.{pop_after_push}
use Rattle.protobuf_parse_base.proofs.names.laws.pop_undoes_push.Goals as goal

pub returns : goal.returns
returns c = pop_after_push
