use Rattle.protobuf_parse_location_laws.proofs.Files as law
use Rattle.protobuf_parse_location_laws.proofs.LeftOut as left_out
use Rattle.protobuf_parse_location_laws.proofs.laws.declarations_are_located.Goals as goal

pub returns-clause-of_texts : goal.returns-clause-of_texts
returns-clause-of_texts c = law.declarations_of_texts_are_located

pub returns-clause-of_trees : goal.returns-clause-of_trees
returns-clause-of_trees c = law.declarations_are_located

pub returns-clause-left_out : goal.returns-clause-left_out
returns-clause-left_out c = left_out.entries_alone_are_left_out
