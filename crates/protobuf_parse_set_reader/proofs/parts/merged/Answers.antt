use Rattle.protobuf_parse_set_reader.proofs.Going.{none_merged}
use Rattle.protobuf_parse_set_reader.proofs.parts.merged.Goals as goal

pub returns-then-is_none : goal.returns-then-is_none
returns-then-is_none g c = none_merged _ _ _ c.last.result c.last.ensures c.if-is_none.ensures
