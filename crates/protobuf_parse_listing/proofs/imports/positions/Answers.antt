use Rattle.std.proofs.Common.{◌≡◌, ◌∙◌, ◌<◌, ◌+◌, ap, sym, ℕ, List, [], ◌∷◌, ◌++◌, length, take}
use Rattle.std.proofs.Common.{get_or, refl}
use Rattle.std.specs.Prelude.{◌||◌, ◌==◌, ℤ, pos}
use Rattle.std.specs.Ordering.{nat_cmp, is_eq}
use Rattle.std.specs.BTreeSet.{contains}
use Rattle.std.specs.Cmp.{unsigned_tied}
use Rattle.std.proofs.lemmas.List.{take_more}
use Rattle.protobuf_parse_model.proofs.OrTests.{cond-true_or, or_left_comm}
use Rattle.protobuf_parse_listing.specs.Listing.{is_at, is_position, position_of}
use Rattle.protobuf_parse_listing.proofs.imports.positions.Goals as goal
use Rattle.protobuf_parse_listing.proofs.imports.positions.Goals.{in-Some+in_ok-insert-in-Some}
use Rattle.protobuf_parse_listing.proofs.imports.positions.Goals.{in-None}

same_number : (x y : ℕ) → is_eq (nat_cmp x y) ≡ (x == y)
same_number x y = unsigned_tied x y

is_position-push : (i : ℕ) (ps : List ℤ) (p : ℤ)
    → is_position i (ps ++ p ∷ []) ≡ (is_at i (position_of p) || is_position i ps)
is_position-push i [] p = refl
is_position-push i (q ∷ ps) p = ap (λ b. is_at i (position_of q) || b) (is_position-push i ps p)
    ∙ or_left_comm (is_at i (position_of q)) (is_at i (position_of p)) (is_position i ps)

-- one position more
is_position-more : (i : ℕ) (ps : List ℤ) (k : ℕ) → k < length ps
    → is_position i (take (k + 1) ps)
    ≡ (is_at i (position_of (get_or ps k (pos 0))) || is_position i (take k ps))
is_position-more i ps k lt = ap (is_position i) (take_more ps k (pos 0) lt)
    ∙ is_position-push i (take k ps) (get_or ps k (pos 0))

pub loop-position-preserved : goal.loop-position-preserved
loop-position-preserved c = λ i.
    let k = c.loop-position.position-index in
    let before = is_position i (take k c.args.listed.now) in
    let more = sym (is_position-more i c.args.listed.now k c.loop-position-test.true) in
    elim c.match-position_of.branch [
      | in-Some+in_ok-insert-in-Some w ↦
          rw w.positions-is (w.in_ok-insert-in-Some.ensures.updates.0 i
          ∙ cond-true_or (is_eq (nat_cmp w.in-Some.position i))
          (contains nat_cmp c.loop-position.positions i)
          ∙ ap (λ b. b || contains nat_cmp c.loop-position.positions i)
          (same_number w.in-Some.position i)
          ∙ ap (λ b. (w.in-Some.position == i) || b) (c.loop-position.invariant i)
          ∙ ap (λ o. is_at i o || before) w.in-Some.ensures ∙ more)
      | in-None w ↦ rw w.positions-is
          (c.loop-position.invariant i ∙ ap (λ o. is_at i o || before) w.in-None.ensures ∙ more)
    ]
