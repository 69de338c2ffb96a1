-- The table is held against the definition at each of the 256 bytes, by computing.
use Rattle.std.proofs.Common.{not, nat_eq, get_or, refl, arith}
use Rattle.std.proofs.lemmas.Bool.{agree_below_at}
use Rattle.protobuf_parse_lexer.specs.declared.lexer.bytes.ByteClass.TheVariants as class
use Rattle.protobuf_parse_lexer.specs.declared.lexer.bytes.TheConstants.{IDENT_MAP}
use Rattle.protobuf_parse_lexer.specs.Text.{is_in}
use Rattle.protobuf_parse_lexer.proofs.lexer.bytes.is_ident.Goals as goal

pub returns : goal.returns
returns c = agree_below_at (λ k. not (nat_eq (get_or IDENT_MAP k 0) 44))
    (is_in class.Ident) 256 c.args.byte refl (omega arith)
