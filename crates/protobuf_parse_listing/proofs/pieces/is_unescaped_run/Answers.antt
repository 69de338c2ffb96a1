use Rattle.std.proofs.Common.{ℕ, w8, cond, leb, bit_or, refl, arith}
use Rattle.std.proofs.lemmas.Simd.{chunk-fits, length-chunk, splat_is_map, zip2_of_maps}
use Rattle.std.proofs.lemmas.Simd.{zip2_splat}
use lib.Lanes.{chunk}
use Rattle.protobuf_parse_listing.specs.Unescaped.{is_unescaped_byte}
use Rattle.protobuf_parse_listing.proofs.UnescapedRuns.{run_is}
use Rattle.protobuf_parse_listing.proofs.pieces.is_unescaped_run.Goals as goal

pub returns : goal.returns
returns g c =
    let n = g.row.N in
    let v = chunk c.args.at n c.args.bytes.now in
    let long = length-chunk c.args.at n c.args.bytes.now c.requires.room in
    run_is is_unescaped_byte _ v
    (omega (arith, long, c.requires.lanes))
    (chunk-fits w8 c.args.at n c.args.bytes.now c.type_inv.bytes)
    (zip2_of_maps bit_or _ _ v
    (zip2_of_maps bit_or _ _ v
    (zip2_of_maps bit_or _ _ v
    (zip2_of_maps (λ a b. cond (leb a b) 255 0) _ _ v (splat_is_map v n 95 long)
    (zip2_splat {Y = ℕ} _ v n 32 long))
    (zip2_splat {Y = ℕ} _ v n 34 long))
    (zip2_splat {Y = ℕ} _ v n 39 long))
    (zip2_splat {Y = ℕ} _ v n 92 long))
    refl
