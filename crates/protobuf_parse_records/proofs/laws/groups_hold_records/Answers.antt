use Rattle.protobuf_parse_records.proofs.GroupsHold as held
use Rattle.protobuf_parse_records.proofs.laws.groups_hold_records.Goals as goal

pub returns : goal.returns
returns c = held.groups_hold_records
