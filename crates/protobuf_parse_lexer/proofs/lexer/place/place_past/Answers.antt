use Rattle.std.proofs.Common.{arith, sym}
use Rattle.protobuf_parse_lexer.proofs.Narrow.{after_narrow, narrow_of}
use Rattle.protobuf_parse_lexer.proofs.lexer.place.place_past.Goals as goal

pub returns-in-Ident : goal.returns-in-Ident
returns-in-Ident c =
    let narrow = narrow_of c.args.kind c.args.word.now c.requires.narrow c.in-Ident.is in
    record {
      value = sym (after_narrow c.args.place c.args.word.now narrow);
      line = omega arith;
      col =
          omega arith;
    }
