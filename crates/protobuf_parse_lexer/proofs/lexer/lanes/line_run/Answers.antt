use Rattle.std.proofs.Common.{ℕ, refl, arith}
use Rattle.std.proofs.lemmas.Simd.{zip2_splat, length-chunk}
use lib.Lanes.{chunk}
use Rattle.protobuf_parse_lexer.specs.declared.lexer.bytes.ByteClass.TheVariants as class
use Rattle.protobuf_parse_lexer.specs.Text.{is_in}
use Rattle.protobuf_parse_lexer.proofs.Lanes.{run_in}
use Rattle.protobuf_parse_lexer.proofs.lexer.lanes.line_run.Goals as goal

pub returns : goal.returns
returns c =
    let v = chunk c.args.at 16 c.args.bytes.now in
    let long = length-chunk c.args.at 16 c.args.bytes.now c.requires in
    run_in (is_in class.Line) c.args.bytes.now c.args.at 16 _ _ c.requires
    (omega arith) c.type_inv.bytes c.first_set.ensures _
    (zip2_splat {Y = ℕ} _ v 16 10 long)
    refl
