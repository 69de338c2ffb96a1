use Rattle.protobuf_parse_records.proofs.Later as later
use Rattle.protobuf_parse_records.proofs.laws.offsets_count_on.Goals as goal

pub returns : goal.returns
returns c = later.offsets_count_on
