use Rattle.std.proofs.Common.{◌∙◌, [], ◌∷◌, ap, refl, sym, append-nil}
use Rattle.std.proofs.lemmas.Result.{err_from_is_err_and}
use Rattle.protobuf_parse_base.specs.PathViews.{path_buf_text}
use Rattle.protobuf_parse_run.proofs.Inputs.{no-check}
use Rattle.protobuf_parse_run.proofs.Checking.{check-breaks, check-ends}
use Rattle.protobuf_parse_run.specs.Run.{rows}
use Rattle.protobuf_parse_run.specs.declared.fault.RunFault.TheVariants as fault
use Rattle.protobuf_parse_run.proofs.Deciding.{decided-same, decided-check}
use Rattle.protobuf_parse_run.proofs.loader.check_loaded.Goals as goal

pub returns-in-None-clause-goes : goal.returns-in-None-clause-goes
returns-in-None-clause-goes g c files kept go good =
    no-check _ files kept _ _ _ _ _ (c.to_str.ensures.text ∙ c.as_path.ensures) good
    (sym c.in-None.ensures.value)

pub returns-in_err-outcome-clause-goes : goal.returns-in_err-outcome-clause-goes
returns-in_err-outcome-clause-goes g c files kept go good =
    let p = err_from_is_err_and c.from_residual.result c.from_residual.ensures.1 in
    rw p.1 (check-breaks _ files (rows c.args.sources.now.bundled.now) kept _ _
    (path_buf_text c.args.name.now) _ c.args.fs_path.now c.in-Some.file.now
    (c.to_str.ensures.text ∙ c.as_path.ensures) good (sym c.in-Some.ensures.value) p.0 p.2)

pub returns-then-ran_out-clause-goes : goal.returns-then-ran_out-clause-goes
returns-then-ran_out-clause-goes g c files kept go good =
    rw (c.ran_out.ensures.memory c.if-ran_out.true)
    (check-breaks _ files (rows c.args.sources.now.bundled.now) kept _ _
    (path_buf_text c.args.name.now) _ c.args.fs_path.now c.in-Some.file.now
    (c.to_str.ensures.text ∙ c.as_path.ensures) good
    (sym c.in-Some.ensures.value) fault.Memory refl)

pub returns-in_err-note-clause-goes : goal.returns-in_err-note-clause-goes
returns-in_err-note-clause-goes g c files kept go good =
    let p = err_from_is_err_and c.from_residual-in_err-note.result
    c.from_residual-in_err-note.ensures.1 in
    rw (p.1, c.in_err-note.ensures.err)
    (check-breaks _ files (rows c.args.sources.now.bundled.now) kept _ _
    (path_buf_text c.args.name.now) _ c.args.fs_path.now c.in-Some.file.now
    (c.to_str.ensures.text ∙ c.as_path.ensures) good (sym c.in-Some.ensures.value) p.0 p.2)

pub returns-clause-goes : goal.returns-clause-goes
returns-clause-goes g c files kept go good =
    rw (ap (λ m. m.entries) c.in_ok-note.ensures.loaded)
    (check-ends _ files (rows c.args.sources.now.bundled.now) kept _ _
    (path_buf_text c.args.name.now) _ c.args.fs_path.now c.in-Some.file.now
    (c.to_str.ensures.text ∙ c.as_path.ensures) good (sym c.in-Some.ensures.value) _ _ _
    (λ e h. c.content_of-loaded.ensures e (rw c.deref.ensures.value h)) c.in_ok-note.ensures.ok
    go c.in_ok-outcome.ensures c.compared-same.result
    (c.ran_out.ensures.other c.if-ran_out.false) c.compared-same.ensures.same
    c.compared-same.ensures.other c.compared-same.ensures.stands)

pub returns-in_err-note-clause-decided : goal.returns-in_err-note-clause-decided
returns-in_err-note-clause-decided g c d =
    decided-same (rows c.args.sources.now.bundled.now) _ _ c.in_err-note.ensures.err d

pub returns-clause-decided : goal.returns-clause-decided
returns-clause-decided g c d =
    decided-check (rows c.args.sources.now.bundled.now) _ c.args.loader.now.tables _ _
    (path_buf_text c.args.name.now) _ c.in-Some.file.now _
    (c.to_str.ensures.text ∙ c.as_path.ensures) c.requires.known
    (sym c.in-Some.ensures.value) c.in_ok-note.ensures.ok d

pub returns-in-None-clause-grows : goal.returns-in-None-clause-grows
returns-in-None-clause-grows g c = ([], sym (append-nil _))

pub returns-in_err-outcome-clause-grows : goal.returns-in_err-outcome-clause-grows
returns-in_err-outcome-clause-grows g c = ([], sym (append-nil _))

pub returns-then-ran_out-clause-grows : goal.returns-then-ran_out-clause-grows
returns-then-ran_out-clause-grows g c = ([], sym (append-nil _))

pub returns-in_err-note-clause-grows : goal.returns-in_err-note-clause-grows
returns-in_err-note-clause-grows g c = ([], c.in_err-note.ensures.err ∙ sym (append-nil _))

pub returns-clause-grows : goal.returns-clause-grows
returns-clause-grows g c = (c.in_ok-note.ensures.ok.0 ∷ [], c.in_ok-note.ensures.ok.1)
