use Rattle.protobuf_parse_merged.specs.Declarations.{declared_in}
use Rattle.protobuf_parse_merged.proofs.Telling as telling
use Rattle.protobuf_parse_merged.proofs.laws.values_join.Goals as goal

pub returns : goal.returns
returns c = λ files name fs gs. (
  telling.values_join files (declared_in files name) fs gs,
  telling.unknown_join files (declared_in files name) fs gs,
)
