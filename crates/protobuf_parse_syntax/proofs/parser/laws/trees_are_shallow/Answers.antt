use Rattle.protobuf_parse_syntax.proofs.Nesting.{trees_shallow}
use Rattle.protobuf_parse_syntax.proofs.parser.laws.trees_are_shallow.Goals as goal

pub returns : goal.returns
returns c = trees_shallow
