use Rattle.std.proofs.Common.{◌≡◌, ◌++◌, flat_map, map, take}
use Rattle.protobuf_parse_lexer.specs.Tokens.{lexeme}
use Rattle.protobuf_parse_text_rules.specs.Statements.{plus_breaches}
use Rattle.protobuf_parse_text_rules.specs.Views.{told}
use Rattle.protobuf_parse_text_rules.proofs.statements.tell_plus.Given as goal

abbrev pub invariant-tokens : goal.invariant-tokens
invariant-tokens l = told l.found ≡ told l.fn.found
    ++ flat_map plus_breaches (map lexeme (take l.token-index l.tokens))
