use Rattle.protobuf_parse_set_reader.proofs.Going.{no_bytes_merged}
use Rattle.protobuf_parse_set_reader.proofs.source_info.merged_bytes.Goals as goal

pub returns-then-is_none : goal.returns-then-is_none
returns-then-is_none c = no_bytes_merged _ _ c.last.result c.last.ensures c.if-is_none.ensures
