use Rattle.protobuf_parse_lexer.proofs.Places.{places_count, tokens_stand}
use Rattle.protobuf_parse_lexer.proofs.lexer.laws.places_count_characters.Goals as goal

pub returns-clause-count : goal.returns-clause-count
returns-clause-count c = places_count

pub returns-clause-stand : goal.returns-clause-stand
returns-clause-stand c = tokens_stand
