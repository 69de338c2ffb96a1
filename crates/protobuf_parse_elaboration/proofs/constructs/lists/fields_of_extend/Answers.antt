use Rattle.std.proofs.Common.{◌∙◌, ◌++◌, Option, ap, flat_map, map, refl, sym, append-nil}
use Rattle.std.proofs.Common.{append_assoc, None}
use Rattle.protobuf_parse_syntax.specs.Trees.{field_statement_syntax}
use Rattle.protobuf_parse_model.specs.SeenFiles.{environment_in}
use Rattle.protobuf_parse_model.specs.Descriptors.{Text}
use Rattle.protobuf_parse_model.specs.Faults.{found, placed}
use Rattle.protobuf_parse_elaboration.specs.Parts.{extensions_declared}
use Rattle.protobuf_parse_elaboration.specs.Fields.{FieldOwner, extension_faults}
use Rattle.protobuf_parse_elaboration.proofs.Extending.{no_items, some_extend}
use Rattle.protobuf_parse_elaboration.proofs.Gathering.{if_ok, on_ok}
use Rattle.protobuf_parse_elaboration.proofs.constructs.lists.fields_of_extend.Goals as goal

pub returns-then-is_empty-clause-value : goal.returns-then-is_empty-clause-value
returns-then-is_empty-clause-value g c =
    let none = no_items c.args.statements.now (sym c.is_empty.ensures ∙ c.if-is_empty.true) in
    rw (none, c.new.ensures.items, c.new-then-is_empty.ensures.items) refl

pub returns-then-is_empty-clause-faults : goal.returns-then-is_empty-clause-faults
returns-then-is_empty-clause-faults g c =
    let none = no_items c.args.statements.now (sym c.is_empty.ensures ∙ c.if-is_empty.true) in
    rw none (sym (append-nil (found c.args.faults.now)))

pub returns-clause-value : goal.returns-clause-value
returns-clause-value g c =
    let env = environment_in (g.C.CustomOptions.customs c.args.at.now.custom.now)
    c.args.at.now.context in
    let ss = map field_statement_syntax c.args.statements.now in
    let at : Option Text → FieldOwner = λ extendee.
    record { extendee = extendee; oneof_index = None } in
    if_ok c.declared_extensions.result (λ d h. h ∙ ap (λ extendee.
    extensions_declared env (at extendee) ss)
    (c.as_deref.ensures.value ∙ c.in_ok-extendee.ensures.value))
    c.declared_extensions.ensures.value

pub returns-clause-faults : goal.returns-clause-faults
returns-clause-faults g c =
    let env = environment_in (g.C.CustomOptions.customs c.args.at.now.custom.now)
    c.args.at.now.context in
    let ss = map field_statement_syntax c.args.statements.now in
    let some = some_extend field_statement_syntax env c.args.extendee.now c.args.statements.now
    (sym c.is_empty.ensures ∙ c.if-is_empty.false) in
    let rest = flat_map (extension_faults env) ss in
    on_ok c.declared_extensions.result (λ h. h
    ∙ ap (λ fs. fs ++ rest) c.in_ok-extendee.ensures.faults
    ∙ append_assoc (found c.args.faults.now) _ rest
    ∙ ap (λ ws. found c.args.faults.now ++ (placed c.args.place ws ++ rest)) (sym some))
    c.declared_extensions.ensures.faults
