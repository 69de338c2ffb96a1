use Rattle.std.proofs.Common.{◌≡◌, ◌∙◌, [], sym}
use Rattle.std.proofs.lemmas.Result.{err_from_is_err_and}
use Rattle.protobuf_parse_syntax.specs.Trees.{file_syntax}
use Rattle.protobuf_parse_run.specs.Loading.{repeats_over}
use Rattle.protobuf_parse_run.proofs.Catching.{begins-if}
use Rattle.protobuf_parse_run.proofs.Spelling.{none-set}
use Rattle.protobuf_parse_run.proofs.ToldFirst.{repeat-blamed}
use Rattle.protobuf_parse_run.proofs.elaborated.elaborated.Goals as goal

pub returns-in_err-link_at_places-clause-elaborates :
    goal.returns-in_err-link_at_places-clause-elaborates
returns-in_err-link_at_places-clause-elaborates c files told =
    let e = err_from_is_err_and c.from_residual.result c.from_residual.ensures.1 in
    rw (e.1, e.2)
    (repeat-blamed _ _ c.in_err-link_at_places.field-0.0
    ((rw c.deref-2.ensures.value at c.in_err-link_at_places.ensures) files told))

pub returns-else-has_custom_option-clause-elaborates :
    goal.returns-else-has_custom_option-clause-elaborates
returns-else-has_custom_option-clause-elaborates c files told =
    let reach = c.args.sights.now.reach.items in
    let once : repeats_over c.args.loaded.now.entries files reach (file_syntax c.args.tree)
    ≡ [] = ((rw c.deref-2.ensures.value at c.in_ok-link_at_places.ensures) files told) in
    none-set c.args.loaded.now.entries files reach c.args.sights.now.sight.items c.args.path.now
    (file_syntax c.args.tree) once c.elaborate_owned.result
    (sym c.has_custom_option.ensures ∙ c.if-has_custom_option.false)
    ((rw c.deref.ensures.value at c.elaborate_owned.ensures) files told)

pub returns-else-has_custom_option-clause-begins :
    goal.returns-else-has_custom_option-clause-begins
returns-else-has_custom_option-clause-begins c files told =
    begins-if c.args.tables.now.spots c.args.loaded.now.entries c.elaborate_owned.result
    c.requires.begins
