use Rattle.std.proofs.Common.{sym}
use Rattle.protobuf_parse_lexer.specs.Front.{long_ident}
use Rattle.protobuf_parse_lexer.proofs.lexer.front.token_piece.Goals as goal

pub returns-then-is_in-3 : goal.returns-then-is_in-3
returns-then-is_in-3 c =
    let ident = c.ident_end.ensures in (
      ident.0,
      long_ident c.args.text.now c.ident_end.result (sym c.if-is_in-3.ensures)
          (sym c.if-is_in.ensures) ident,
    )
