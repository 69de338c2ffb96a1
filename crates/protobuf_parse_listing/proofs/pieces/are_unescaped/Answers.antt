use Rattle.std.proofs.Common.{◌∙◌, ◌-◌, ◌&&◌, ap₂, sym, refl, length, arith}
use Rattle.protobuf_parse_listing.specs.Unescaped.{is_unescaped_byte}
use Rattle.protobuf_parse_listing.proofs.UnescapedRuns.{broken, longer, whole}
use Rattle.protobuf_parse_listing.proofs.pieces.are_unescaped.Goals as goal

pub by_run-init : goal.by_run-init
by_run-init g c = (omega arith, refl)

pub returns-then-not-is_unescaped_run : goal.returns-then-not-is_unescaped_run
returns-then-not-is_unescaped_run g c =
    sym (broken is_unescaped_byte c.args.bytes.now c.by_run.at g.row.N
    (sym c.if-not-is_unescaped_run.ensures))

pub by_run-smaller : goal.by_run-smaller
by_run-smaller g c = omega (arith, c.requires.lanes.0, c.by_run-test.true)

pub by_run-preserved : goal.by_run-preserved
by_run-preserved g c = (
  omega (arith, c.by_run-test.true),
  longer is_unescaped_byte c.args.bytes.now c.by_run.at g.row.N
      ∙ ap₂ (λ a b. a && b) c.by_run.invariant.1 (sym c.if-not-is_unescaped_run.ensures),
)

pub returns : goal.returns
returns g c = c.is_unescaped_run-2.ensures
    ∙ sym (whole is_unescaped_byte c.args.bytes.now c.by_run.at g.row.N
    (length c.args.bytes.now - g.row.N)
    (omega (arith, c.requires.long)) (omega (arith, c.by_run-test.false)) c.by_run.invariant.1)
