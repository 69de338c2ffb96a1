use Rattle.std.proofs.Common.{sym, arith}
use Rattle.protobuf_parse_lexer.proofs.Quotes.{after_quote}
use Rattle.protobuf_parse_lexer.proofs.lexer.str_lit.unquoted.Goals as goal

pub range-requires-clause-start_boundary : goal.range-requires-clause-start_boundary
range-requires-clause-start_boundary c =
    λ _. after_quote c.args.text.now c.as_bytes-bytes.result.now c.utf8.text
    c.as_bytes-bytes.ensures.value (sym c.if-is_quote.ensures) (omega arith)
