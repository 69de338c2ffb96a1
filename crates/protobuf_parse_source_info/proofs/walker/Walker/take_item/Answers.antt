use Rattle.std.proofs.Common.{◌≡◌, ℕ, Bool, true, false, ◌==◌, ◌&&◌, sym, ◌∙◌, ap, refl}
use Rattle.std.proofs.Common.{arith}
use Rattle.std.proofs.lemmas.Bool.Decides.{nat_tests}
use Rattle.protobuf_parse_source_info.specs.Walks.{up_to_end, up_to_end_in, deeper, ends_item}
use Rattle.protobuf_parse_source_info.specs.InnerViews.{doing, ran, spot}
use Rattle.protobuf_parse_source_info.proofs.Runs.{item_more, item_ends, item_none, some_fewer}
use Rattle.protobuf_parse_source_info.proofs.Runs.{deeper_little}
use Rattle.protobuf_parse_source_info.proofs.walker.Walker.take_item.Goals as goal
use Rattle.protobuf_parse_source_info.proofs.walker.Walker.take_item.Goals.{else-depth-eq0-via-then-depth-eq0+else-ends_item}
use Rattle.protobuf_parse_source_info.proofs.walker.Walker.take_item.Goals.{else-depth-eq0-via-else-depth-eq0}

pub tokens-init : goal.tokens-init
unfolding up_to_end
tokens-init c = (refl, omega (arith, c.left-left.ensures))

pub returns-then-ends_item : goal.returns-then-ends_item
returns-then-ends_item c =
    let t = spot c.in-Some.token in
    let test : (c.tokens.depth == 0 && ends_item t.text) ≡ true =
    rw c.if-depth-eq0.true (sym c.if-ends_item.ensures) in
    record {
      is =
          item_ends c.tokens.depth t (doing c.tokens.self) c.in-Some.ensures test
          ∙ c.tokens.invariant.0;
    }

pub tokens-smaller : goal.tokens-smaller
tokens-smaller c =
    omega (
      arith,
      some_fewer (spot c.in-Some.token) (doing c.tokens.self) (doing c.take.new.self)
          c.in-Some.ensures c.take.ensures,
    )

not_zero : (n : ℕ) (b : Bool) → (n ≡ 0 → ⊥) → (n == 0 && b) ≡ false
not_zero n b h = grind (arith, nat_tests)

not_here : (n : ℕ) (b : Bool) → b ≡ false → (n == 0 && b) ≡ false
not_here n b h = grind (arith, nat_tests)

pub tokens-preserved : goal.tokens-preserved
tokens-preserved c =
    let t = spot c.in-Some.token in
    let n = c.tokens.depth in
    let test : (n == 0 && ends_item t.text) ≡ false = elim c.else-depth-eq0.branch [
      | else-depth-eq0-via-then-depth-eq0+else-ends_item x ↦
          not_here n (ends_item t.text) (sym x.if-ends_item.ensures)
      | else-depth-eq0-via-else-depth-eq0 x ↦
          not_zero n (ends_item t.text) x.if-depth-eq0.false
    ] in (
      ap (λ (k : ℕ). ran (up_to_end_in k) (doing c.take.new.self)) c.deeper-depth.ensures
          ∙ ap (ran (up_to_end_in (deeper n t.text))) c.take.ensures.is
          ∙ item_more n t (doing c.tokens.self) c.in-Some.ensures test
          ∙ c.tokens.invariant.0,
      omega (
        arith,
        deeper_little n t.text,
        c.deeper-depth.ensures,
        c.tokens.invariant.1,
        some_fewer t (doing c.tokens.self) (doing c.take.new.self) c.in-Some.ensures
            c.take.ensures,
      ),
    )

pub returns : goal.returns
returns c = record {
  is =
      item_none c.tokens.depth (doing c.tokens.self) (sym c.in_default.ensures)
      ∙ c.tokens.invariant.0;
}
