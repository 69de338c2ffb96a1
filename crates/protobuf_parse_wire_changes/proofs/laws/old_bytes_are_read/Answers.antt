use Rattle.protobuf_parse_wire_changes.proofs.Sound as sound
use Rattle.protobuf_parse_wire_changes.proofs.laws.old_bytes_are_read.Goals as goal

pub returns : goal.returns
returns c = sound.old_bytes_are_read
