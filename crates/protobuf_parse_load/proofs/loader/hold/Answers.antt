use Rattle.std.proofs.Common.{◌≡◌, ◌∙◌, ℕ, true, false, ap, subst, sym, refl, length, arith}
use Rattle.std.specs.Prelude.{OnOk, string_bytes}
use Rattle.std.proofs.lemmas.Result.{err_from_is_err_and}
use Rattle.protobuf_parse_base.specs.PathViews.{path_buf_text}
use Rattle.protobuf_parse_model.specs.Descriptors.{Text}
use Rattle.protobuf_parse_run.specs.declared.log.ReadOutcome.{ReadOutcome}
use Rattle.protobuf_parse_run.specs.Run.{WasRead, input_view}
use Rattle.protobuf_parse_run.specs.Walks.{the_reader}
use Rattle.protobuf_parse_load.specs.Frames.{AddsStep}
use Rattle.protobuf_parse_load.specs.Loads.{steps_view}
use Rattle.protobuf_parse_load.specs.Requests.{legal_by}
use Rattle.protobuf_parse_load.specs.StepLists.{is_loaded}
use Rattle.protobuf_parse_load.specs.Steps.{held, known}
use Rattle.protobuf_parse_load.proofs.Holding.{hold-broken, hold-none, hold-other, hold-read}
use Rattle.protobuf_parse_load.proofs.loader.hold.Goals as goal

pub returns-in_default : goal.returns-in_default
returns-in_default g c =
    hold-none _ _ c.args.sources.now c.args.number (input_view c.args.input.now) c.args.loader.now
    c.requires.chain c.requires.decided c.requires.remembers (λ a is. rw c.in_default.is refl)

pub returns-then-not-is_loaded : goal.returns-then-not-is_loaded
returns-then-not-is_loaded g c =
    let p = path_buf_text c.in-At.name in
    let old = c.args.loader.now in
    let text : c.to_str.result.now ≡ p = c.to_str.ensures.text ∙ c.as_path-path.ensures in
    let off : is_loaded (known p (steps_view old.steps.list)) ≡ false =
    ap (λ z. is_loaded (known z (steps_view old.steps.list))) (sym text)
    ∙ (sym c.is_loaded.ensures ∙ c.if-not-is_loaded.true) in
    hold-none _ _ c.args.sources.now c.args.number (input_view c.args.input.now) old
    c.requires.chain c.requires.decided c.requires.remembers
    (hold-other g.R.ProtoPathResolver.may_answer g.I.InputReader.may_read c.args.sources.now
    c.args.number (input_view c.args.input.now) p
    (string_bytes c.in-At.fs_path) old (ap input_view c.in-At.is) off)

pub returns-in_err-note : goal.returns-in_err-note
returns-in_err-note g c =
    let p = err_from_is_err_and c.from_residual-in_err-note.result
    c.from_residual-in_err-note.ensures.1 in
    hold-broken _ _ c.args.sources.now c.args.number (input_view c.args.input.now)
    c.args.loader.now _ c.from_residual-in_err-note.result p.0 p.1 c.in_err-note.ensures.err
    c.requires.decided

pub returns : goal.returns
returns g c =
    let p = path_buf_text c.in-At.name in
    let own = string_bytes c.in-At.fs_path in
    let old = c.args.loader.now in
    let legal = legal_by g.R.ProtoPathResolver.may_answer g.I.InputReader.may_read
    c.args.sources.now in
    let text : c.to_str.result.now ≡ p = c.to_str.ensures.text ∙ c.as_path-path.ensures in
    let on : is_loaded (known p (steps_view old.steps.list)) ≡ true =
    ap (λ z. is_loaded (known z (steps_view old.steps.list))) (sym text)
    ∙ (sym c.is_loaded.ensures ∙ c.if-not-is_loaded.false) in
    let n = c.in_ok-note.ensures.ok in
    let count : c.len-read.result ≡ length old.reads.items =
    omega (arith, c.len-read.ensures, old.reads.ok.0) in
    let read : legal (the_reader own) p c.in_ok-outcome.outcome =
    subst (λ (z : Text). WasRead (g.I.InputReader.may_read c.args.sources.now.reader.now) z
    c.in_ok-outcome.outcome) c.deref.ensures c.in_ok-outcome.ensures in
    let adds = subst (λ (z : ℕ). OnOk c.add_held.result
    (AddsStep old.steps.list c.add_held.new.steps.list (held c.args.number p z))) count
    (subst (λ (z : Text). OnOk c.add_held.result
    (AddsStep old.steps.list c.add_held.new.steps.list (held c.args.number z c.len-read.result)))
    (c.to_str-2.ensures.text ∙ c.as_path-path.ensures) c.add_held.ensures) in
    hold-read g.R.ProtoPathResolver.may_answer g.I.InputReader.may_read c.args.sources.now
    c.args.number (input_view c.args.input.now) p own old _ c.add_held.result n.0
    (ap input_view c.in-At.is) c.requires.chain c.requires.decided c.requires.remembers on n.1
    (n.2 ∙ c.as_path-path.ensures)
    (subst (λ (o : ReadOutcome). legal (the_reader own) p o) (sym n.3) read) adds refl refl refl
