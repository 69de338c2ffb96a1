use Rattle.std.proofs.Common.{◌∙◌, ℕ, Some, ap, map, subst, sym}
use Rattle.std.specs.Prelude.{option_map}
use Rattle.std.specs.Borrow.{Bor}
use Rattle.std.proofs.lemmas.Option.{slice_get-map}
use Rattle.protobuf_parse_base.specs.PathViews.{path_buf_text}
use Rattle.protobuf_parse_run.specs.Run.{input_view, rows}
use Rattle.protobuf_parse_run.specs.Walks.{at}
use Rattle.protobuf_parse_run.specs.declared.loader.LoadedFile.{LoadedFile}
use Rattle.protobuf_parse_run.proofs.Keeping.{some_same}
use Rattle.protobuf_parse_load.specs.Loads.{IsFirstRead}
use Rattle.protobuf_parse_check.proofs.Clashing.{clash-is, clash-told, got, loaded-text}
use Rattle.protobuf_parse_check.proofs.clashes.clash_of.Goals as goal

pub returns-in-Content : goal.returns-in-Content
returns-in-Content c files has h =
    let given = c.args.given.now in
    let inputs = given.inputs.now in
    let input = got inputs c.args.input c.in-Some-At.field-0.now
    (sym c.in-Some-At.ensures.lookup.0) c.in-Some-At.ensures.lookup.1 in
    let entry = got given.reads.now c.args.read c.in-Some.entry.now
    (sym c.in-Some.ensures.lookup.0) c.in-Some.ensures.lookup.1 in
    let here = slice_get-map input_view inputs c.args.input ∙ ap (option_map input_view) input
    ∙ ap (λ x. Some (input_view x)) c.in-Some-At.field-0-is
    ∙ ap (λ z. Some (at (path_buf_text c.in-Some-At.name) z)) (sym c.deref.ensures) in
    let file = some_same c.in-Some-find.file.now h.file
    (sym (ap (option_map (λ (f : ℕ × Bor LoadedFile). f.1.now)) c.in-Some-find.is)
    ∙ c.find.ensures.value ∙ h.is_loaded) in
    let first = subst (λ (f : LoadedFile). IsFirstRead given.reads.now c.args.path.now f.read)
    (sym file) h.was_read in
    clash-told files (rows given.bundled.now) given.reads.now (map input_view inputs) c.args.input
    c.args.path.now h.own (path_buf_text c.in-Some-At.name) c.deref.result.now c.args.read
    c.in-Some.entry.now _ c.fault_of.result has h.input here entry
    (loaded-text files (rows given.bundled.now) given.reads.now c.args.path.now
    c.in-Some-find.file.now.read _ has first c.content_of-loaded.ensures)
    (clash-is c.compared.result c.fault_of.result _ _ c.compared.ensures.same
    c.compared.ensures.other c.compared.ensures.stands c.fault_of.ensures)
