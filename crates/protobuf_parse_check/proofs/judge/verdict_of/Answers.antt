use Rattle.std.proofs.Common.{◌≡◌, ◌∙◌, ◌&&◌, ◌||◌, ap, not, refl, subst, sym, Bool, List}
use Rattle.std.proofs.Common.{ℕ}
use Rattle.protobuf_parse_syntax.specs.Trees.{file_syntax}
use Rattle.protobuf_parse_model.specs.Faults.{found}
use Rattle.protobuf_parse_run.specs.Repeats.{is_nothing}
use Rattle.protobuf_parse_check.specs.declared.verdict.Verdict.{Verdict}
use Rattle.protobuf_parse_check.specs.Judging.{FindsRepeats, IsJudged, any_with, has_fault, has_lost}
use Rattle.protobuf_parse_check.specs.Judging.{has_trouble}
use Rattle.protobuf_parse_check.specs.Judging.{is_wrong}
use Rattle.protobuf_parse_check.specs.Reports.{state_by}
use Rattle.protobuf_parse_check.proofs.LookingUp.{nothing-is}
use Rattle.protobuf_parse_check.proofs.Plainly.{shown-as}
use Rattle.protobuf_parse_check.proofs.judge.verdict_of.Goals as goal
use Rattle.protobuf_parse_check.proofs.judge.verdict_of.Goals.{then-losses, else-losses}
use Rattle.protobuf_parse_check.proofs.judge.verdict_of.Goals.{then-not-wrong, else-not-wrong}
use Rattle.protobuf_parse_check.proofs.judge.verdict_of.Goals.{then-losses-2, else-losses-2}
use Rattle.protobuf_parse_check.proofs.judge.verdict_of.Goals.{then-wrong, else-wrong}
use Rattle.protobuf_parse_check.proofs.judge.verdict_of.Goals.{then-wrong-2, else-wrong-2}

pub returns-clause-verdict : goal.returns-clause-verdict
returns-clause-verdict c files told =
    let loaded = c.args.judge.now.loaded.entries in
    let t = file_syntax c.args.tree in
    let path = c.args.path.now in
    let verdicts = c.args.judge.now.verdicts.items in
    let losses = c.args.losses in
    let reach = c.args.sights.now.reach.items in
    let sight = c.args.sights.now.sight.items in
    let repeats = found c.in_ok-repeats.repeats in
    let wrong : c.if-losses.wrong ≡ is_wrong losses repeats =
    elim c.if-losses.branch [
      | then-losses w ↦ w.wrong-is ∙ w.if-losses.true
          ∙ sym (ap (λ (b : Bool). b || not (is_nothing repeats)) w.if-losses.true)
      | else-losses w ↦ w.wrong-is
          ∙ ap not (w.is_empty.ensures ∙ nothing-is c.in_ok-repeats.repeats repeats refl)
          ∙ sym (ap (λ (b : Bool). b || not (is_nothing repeats)) w.if-losses.false)
    ] in
    let looks : c.if-not-wrong.looks_up ≡ (not (is_wrong losses repeats)
    && not (any_with has_trouble verdicts reach)) =
    elim c.if-not-wrong.branch [
      | then-not-wrong w ↦ w.looks_up-is
          ∙ ap not (w.any_troubled.ensures
          ∙ ap (λ (vs : List Verdict). any_with has_trouble vs w.deref-then-not-wrong-2.result.now)
          w.deref-then-not-wrong.ensures.value
          ∙ ap (any_with has_trouble verdicts) w.deref-then-not-wrong-2.ensures.value)
          ∙ sym (ap (λ (b : Bool). not b && not (any_with has_trouble verdicts reach))
          (sym wrong ∙ w.if-not-wrong.true))
      | else-not-wrong w ↦ w.looks_up-is ∙ ap not w.if-not-wrong.false
          ∙ sym (ap (λ (b : Bool). not b && not (any_with has_trouble verdicts reach))
          (sym wrong ∙ w.if-not-wrong.false))
    ] in
    let misses : c.if-losses-2.misses ≡ (losses.any || any_with has_lost verdicts sight) =
    elim c.if-losses-2.branch [
      | then-losses-2 w ↦ w.misses-is ∙ w.if-losses-2.true
          ∙ sym (ap (λ (b : Bool). b || any_with has_lost verdicts sight) w.if-losses-2.true)
      | else-losses-2 w ↦ w.misses-is
          ∙ w.any_loses_public-misses.ensures
          ∙ ap (λ (vs : List Verdict). any_with has_lost vs w.deref-else-losses-2-2.result.now)
          w.deref-else-losses-2.ensures.value
          ∙ ap (any_with has_lost verdicts) w.deref-else-losses-2-2.ensures.value
          ∙ sym (ap (λ (b : Bool). b || any_with has_lost verdicts sight) w.if-losses-2.false)
    ] in
    let shown_faults = shown-as (found c.in_ok-descriptor.field-0.faults)
    (found c.in_ok-faults.faults) c.if-losses-2.misses
    (losses.any || any_with has_lost verdicts sight) c.deref-3.result.now
    c.in_ok-repeats.repeats.items c.in_ok-faults.ensures c.deref-3.ensures.value misses in
    let faulty : c.if-wrong.state_by ≡ (is_wrong losses repeats
    || not (is_nothing (found c.in_ok-faults.faults))) =
    elim c.if-wrong.branch [
      | then-wrong w ↦ w.state_by-is ∙ w.if-wrong.true
          ∙ sym (ap (λ (b : Bool). b || not (is_nothing (found c.in_ok-faults.faults)))
          (sym wrong ∙ w.if-wrong.true))
      | else-wrong w ↦ w.state_by-is
          ∙ ap not (w.is_empty-else-wrong.ensures
          ∙ nothing-is c.in_ok-faults.faults (found c.in_ok-faults.faults) refl)
          ∙ sym (ap (λ (b : Bool). b || not (is_nothing (found c.in_ok-faults.faults)))
          (sym wrong ∙ w.if-wrong.false))
    ] in
    let below : c.any_faulty.result ≡ any_with has_fault verdicts reach =
    c.any_faulty.ensures
    ∙ ap (λ (vs : List Verdict). any_with has_fault vs c.deref-5.result.now) c.deref-4.ensures.value
    ∙ ap (any_with has_fault verdicts) c.deref-5.ensures.value in
    let judged = c.in_ok-descriptor.ensures.judged files told in
    record {
      repeats = subst (λ (ns : List ℕ). FindsRepeats loaded files c.args.judge.now.tables.names ns t
          c.args.judge.now.brought c.repeats_of.new.brought repeats) c.deref-2.ensures.value
          (c.in_ok-repeats.ensures files told);
      judged = c.in_ok-descriptor.field-0;
      is_judged =
          subst (λ (b : Bool). IsJudged loaded files reach sight b path t
          c.in_ok-descriptor.field-0) looks
          (subst (λ (ns : List ℕ). IsJudged loaded files reach ns c.if-not-wrong.looks_up path t
          c.in_ok-descriptor.field-0) c.deref.ensures.value
          (subst (λ (ns : List ℕ). IsJudged loaded files ns c.deref.result.now
          c.if-not-wrong.looks_up path t c.in_ok-descriptor.field-0) c.deref-2.ensures.value
          judged));
      descriptor_is = refl;
      faults = shown_faults;
      troubled = elim c.if-wrong-2.branch [
        | then-wrong-2 w ↦ w.verdict-is ∙ w.if-wrong-2.true
            ∙ sym (ap (λ (b : Bool). b || c.in_ok-descriptor.field-0.faulty)
            (sym wrong ∙ w.if-wrong-2.true))
        | else-wrong-2 w ↦ w.verdict-is
            ∙ sym (ap (λ (b : Bool). b || c.in_ok-descriptor.field-0.faulty)
            (sym wrong ∙ w.if-wrong-2.false))
      ];
      state = c.state_by-state.ensures
          ∙ ap (λ (b : Bool). state_by b c.any_faulty.result) faulty
          ∙ ap (state_by (is_wrong losses repeats
          || not (is_nothing (found c.in_ok-faults.faults)))) below;
      loses_public = refl;
      tree = refl;
    }
