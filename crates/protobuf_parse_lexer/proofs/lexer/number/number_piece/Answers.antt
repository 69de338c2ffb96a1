use Rattle.protobuf_parse_lexer.specs.Front.{long_hex, long_decimal, long_octal, digit_begins}
use Rattle.protobuf_parse_lexer.proofs.lexer.number.number_piece.Goals as goal

pub integer_piece-requires-clause-longest : goal.integer_piece-requires-clause-longest
integer_piece-requires-clause-longest c =
    long_hex c.args.text.now c.in-Some-hex_end.end c.in_default.ensures c.in-Some-hex_end.ensures

pub integer_piece-requires-in-Some-octal_end-clause-longest : goal.integer_piece-requires-in-Some-octal_end-clause-longest
integer_piece-requires-in-Some-octal_end-clause-longest c =
    long_octal c.args.text.now c.in-Some-octal_end.end c.in_default.ensures
    c.in_default-hex_end.ensures c.in-Some-octal_end.ensures

pub decimal_end-requires-clause-digit : goal.decimal_end-requires-clause-digit
decimal_end-requires-clause-digit c =
    digit_begins c.args.text.now c.requires.begins c.in_default.ensures

pub integer_piece-requires-2-clause-longest : goal.integer_piece-requires-2-clause-longest
integer_piece-requires-2-clause-longest c =
    long_decimal c.args.text.now c.decimal_end.result c.in_default.ensures
    c.in_default-hex_end.ensures c.in_default-octal_end.ensures c.decimal_end.ensures
