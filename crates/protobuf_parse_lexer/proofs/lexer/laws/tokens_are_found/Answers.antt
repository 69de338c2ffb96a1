use Rattle.protobuf_parse_lexer.proofs.BehindRelations.{each_is_found, one_lies_behind}
use Rattle.protobuf_parse_lexer.proofs.lexer.laws.tokens_are_found.Goals as goal

pub returns-clause-found : goal.returns-clause-found
returns-clause-found c = each_is_found

pub returns-clause-one : goal.returns-clause-one
returns-clause-one c = one_lies_behind
