use Rattle.std.proofs.Common.{ap, sym, ◌∙◌, ℕ, List}
use Rattle.protobuf_parse_syntax.specs.Dependencies.{imports}
use Rattle.protobuf_parse_syntax.specs.Trees.{file_syntax}
use Rattle.protobuf_parse_model.specs.LastDeclared.{last_declared}
use Rattle.protobuf_parse_run.specs.Loading.{declaring_numbers, reaches_number}
use Rattle.protobuf_parse_run.specs.Repeats.{completing_import}
use Rattle.protobuf_parse_run.proofs.Repeating.{no-place, place-behind}
use Rattle.protobuf_parse_check.proofs.Plainly.{not-there-of}
use Rattle.protobuf_parse_check.proofs.repeats.place_of.Goals as goal

pub returns-in-Some-2 : goal.returns-in-Some-2
returns-in-Some-2 c files tells =
    let t = file_syntax c.args.tree.now in
    let reaches = reaches_number c.args.loaded.now.entries in
    let numbers = declaring_numbers files c.args.extension c.args.name.now c.args.seen.now.reach.now
    in
    place-behind (last_declared c.args.extension c.args.name.now t)
    (completing_import reaches numbers (imports t.statements)) c.in-Some-2.place
    (sym (c.requires.last c.args.name.now) ∙ not-there-of _ _ _ c.get.ensures.value c.in_default.is)
    (ap (λ (ns : List ℕ). completing_import reaches ns (imports t.statements))
    (sym (c.in_ok-files.ensures files tells)) ∙ sym c.in_ok-place.ensures ∙ c.in-Some-2.is)

pub returns-in-None : goal.returns-in-None
returns-in-None c files tells =
    let t = file_syntax c.args.tree.now in
    let reaches = reaches_number c.args.loaded.now.entries in
    let numbers = declaring_numbers files c.args.extension c.args.name.now c.args.seen.now.reach.now
    in
    no-place (last_declared c.args.extension c.args.name.now t)
    (completing_import reaches numbers (imports t.statements))
    (sym (c.requires.last c.args.name.now) ∙ not-there-of _ _ _ c.get.ensures.value c.in_default.is)
    (ap (λ (ns : List ℕ). completing_import reaches ns (imports t.statements))
    (sym (c.in_ok-files.ensures files tells)) ∙ sym c.in_ok-place.ensures ∙ c.in-None.is)
