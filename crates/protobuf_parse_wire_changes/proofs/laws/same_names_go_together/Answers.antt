use Rattle.protobuf_parse_wire_changes.proofs.SameNames as lemmas
use Rattle.protobuf_parse_wire_changes.proofs.laws.same_names_go_together.Goals as goal

pub returns : goal.returns
returns c = lemmas.same_names_go_together
