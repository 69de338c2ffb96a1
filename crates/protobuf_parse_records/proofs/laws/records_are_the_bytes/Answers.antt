use Rattle.protobuf_parse_records.proofs.WholeMessages as whole
use Rattle.protobuf_parse_records.proofs.laws.records_are_the_bytes.Goals as goal

pub returns : goal.returns
returns c = whole.records_are_the_bytes
