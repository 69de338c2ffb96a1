use Rattle.std.proofs.Common.{◌≤◌, ◌∙◌, ap, subst, sym, arith, length, ℕ}
use Rattle.std.proofs.lemmas.List.{length-take}
use Rattle.std.proofs.KnownBytes.{Consumes-kept, Consumes-trans}
use Rattle.std.specs.Io.KnownBytes.{Consumes}
use Rattle.protobuf_parse_files.proofs.Reading.{consumed, length-read}
use Rattle.protobuf_parse_files.proofs.bounded.read_up_to.Goals as goal
use Rattle.protobuf_parse_files.proofs.bounded.read_up_to.Goals.{in-Err}
use Rattle.protobuf_parse_files.proofs.bounded.read_up_to.Goals.{
  in-Ok+in_ok-extend_from_slice-in-Ok,
}

pub loop-preserved : goal.loop-preserved
loop-preserved g c = elim c.match-read.branch [
  | in-Ok+in_ok-extend_from_slice-in-Ok w ↦
      let grown = ap (λ v. v.items) w.content-is
      ∙ w.in_ok-extend_from_slice-in-Ok.ensures.items in
      let le : w.in-Ok.len ≤ length c.read.new.buf = w.in-Ok.ensures.bound.0 in
      record {
        within = subst (λ l. length l ≤ c.args.most) (sym grown)
            (length-read _ _ _ _ _ le (omega (arith, length-take {A = ℕ})));
        known = subst (Consumes _ _) (sym grown)
            (Consumes-trans _ _ _ _ _ c.loop.invariant.known
            (consumed _ _ _ _ _ le w.in-Ok.ensures.bytes.0));
      }
  | in-Err w ↦
      let same = ap (λ v. v.items) w.content-is in
      record {
        within = omega (arith, ap length same);
        known = subst (Consumes _ _) (sym same)
            (Consumes-kept _ _ _ _ c.loop.invariant.known w.in-Err.ensures.bytes);
      }
]
