use Rattle.protobuf_parse_rules.proofs.Searching.{same_texts}
use Rattle.protobuf_parse_rules.proofs.words.Words.of.Goals as goal

pub returns : goal.returns
returns c = λ t. same_texts _ _ c.sort_unstable.ensures.permutation t
