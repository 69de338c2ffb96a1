use Rattle.std.proofs.Common.{ℕ, leb, cond, bit_or, refl, arith}
use Rattle.std.proofs.lemmas.Simd.{zip2_splat, length-chunk}
use lib.Lanes.{chunk}
use Rattle.protobuf_parse_lexer.specs.Scan.{is_narrow}
use Rattle.protobuf_parse_lexer.proofs.Lanes.{itself, joined, splat_is, run_in}
use Rattle.protobuf_parse_lexer.proofs.lexer.lanes.narrow_run.Goals as goal

pub returns : goal.returns
returns c =
    let v = chunk c.args.at 16 c.args.bytes.now in
    let long = length-chunk c.args.at 16 c.args.bytes.now c.requires in
    run_in is_narrow c.args.bytes.now c.args.at 16 _ _ c.requires
    (omega arith) c.type_inv.bytes c.first_set.ensures _
    (joined bit_or _ _ v
    (joined (λ a b. cond (leb a b) 255 0) _ _ v (splat_is v 16 128 long) (itself v))
    (zip2_splat {Y = ℕ} _ v 16 10 long))
    refl
