use Rattle.protobuf_parse_base.proofs.Undone.{prefix_after_concat, suffix_after_concat}
use Rattle.protobuf_parse_base.proofs.names.laws.remove_undoes_concat.Goals as goal

pub returns-clause-prefix : goal.returns-clause-prefix
returns-clause-prefix c = prefix_after_concat

pub returns-clause-suffix : goal.returns-clause-suffix
returns-clause-suffix c = suffix_after_concat
