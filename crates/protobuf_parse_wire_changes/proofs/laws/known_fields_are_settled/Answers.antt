use Rattle.protobuf_parse_wire_changes.proofs.Settling as lemmas
use Rattle.protobuf_parse_wire_changes.proofs.laws.known_fields_are_settled.Goals as goal

pub returns : goal.returns
returns c = lemmas.known_fields_are_settled
