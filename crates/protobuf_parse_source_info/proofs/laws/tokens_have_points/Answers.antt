use Rattle.protobuf_parse_source_info.proofs.Having.{one_list_of_spots}
use Rattle.protobuf_parse_source_info.proofs.laws.tokens_have_points.Goals as goal

pub returns : goal.returns
returns c = one_list_of_spots
