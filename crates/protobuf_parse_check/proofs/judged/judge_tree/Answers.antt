use Rattle.std.proofs.Common.{◌≡◌, ◌∙◌, ◌++◌, not, List, ap, inl, inr, map, sym}
use Rattle.protobuf_parse_syntax.specs.Trees.{file_syntax}
use Rattle.protobuf_parse_model.specs.Descriptors as described
use Rattle.protobuf_parse_model.specs.Faults.{fault_view, found}
use Rattle.protobuf_parse_model.specs.declared.error.ElabError.{ElabError}
use Rattle.protobuf_parse_run.specs.Loading.{own_over}
use Rattle.protobuf_parse_run.specs.Repeats.{is_nothing}
use Rattle.protobuf_parse_check.proofs.LookingUp.{index-begins, looked-if, nothing-is, not-looked}
use Rattle.protobuf_parse_check.proofs.judged.judge_tree.Goals as goal
use Rattle.protobuf_parse_check.proofs.judged.judge_tree.Goals.{then-faulty-via-then-faulty}
use Rattle.protobuf_parse_check.proofs.judged.judge_tree.Goals.{then-faulty-via-else-faulty+then-not-looks_up}
use Rattle.protobuf_parse_check.proofs.judged.judge_tree.Goals.{then-faulty-via-else-faulty+else-not-looks_up+then-not-has_custom_option}

pub returns-then-faulty-clause-judged : goal.returns-then-faulty-clause-judged
returns-then-faulty-clause-judged c files told =
    let loaded = c.args.loaded.now.entries in
    let t = file_syntax c.args.tree.now in
    let reach = c.args.seen.now.reach.now in
    let sight = c.args.seen.now.sight.now in
    let own = own_over files sight t in
    let added = c.in_ok-plain.ensures.faults files told in
    let is : found c.elaborate_all.new.faults ≡ own = added
    ∙ ap (λ (es : List ElabError). map fault_view es ++ own) c.new-faults.ensures.items in
    let faulty : not c.is_empty-faulty.result ≡ not (is_nothing own) =
    ap not (c.is_empty-faulty.ensures ∙ nothing-is c.elaborate_all.new.faults own is) in
    not-looked loaded files reach sight c.args.looks_up c.args.path.now t c.in_ok-plain.plain
    c.elaborate_all.new.faults (not c.is_empty-faulty.result) faulty is
    (c.in_ok-plain.ensures.value files told)
    (elim c.then-faulty.branch [
      | then-faulty-via-then-faulty w ↦ inl (ap not w.if-faulty.true)
      | then-faulty-via-else-faulty+then-not-looks_up w ↦ inr (inl w.if-not-looks_up.true)
      | then-faulty-via-else-faulty+else-not-looks_up+then-not-has_custom_option w ↦
          inr (inr (sym w.has_custom_option.ensures ∙ w.if-not-has_custom_option.true))
    ])

pub returns-clause-judged : goal.returns-clause-judged
returns-clause-judged c files told =
    let loaded = c.args.loaded.now.entries in
    let t = file_syntax c.args.tree.now in
    let reach = c.args.seen.now.reach.now in
    let sight = c.args.seen.now.sight.now in
    let own = own_over files sight t in
    let added = c.in_ok-plain.ensures.faults files told in
    let is : found c.elaborate_all.new.faults ≡ own = added
    ∙ ap (λ (es : List ElabError). map fault_view es ++ own) c.new-faults.ensures.items in
    looked-if loaded files reach sight c.args.looks_up c.args.path.now t
    (described.file_view c.in_ok-plain.plain) c.with_customs.result
    (c.in_ok-plain.ensures.value files told)
    (sym (c.is_empty-faulty.ensures ∙ nothing-is c.elaborate_all.new.faults own is) ∙ c.if-faulty.false)
    c.if-not-looks_up.false (c.with_customs.ensures.judged files told)

pub returns-clause-begins : goal.returns-clause-begins
returns-clause-begins c files told =
    index-begins c.with_customs.result c.with_customs.new.spots c.args.loaded.now.entries files
    c.args.seen.now.reach.now c.args.seen.now.sight.now
    (described.file_view c.in_ok-plain.plain) c.args.path.now (file_syntax c.args.tree.now)
    (c.in_ok-plain.ensures.value files told)
    (c.with_customs.ensures.judged files told) c.with_customs.ensures.begins
