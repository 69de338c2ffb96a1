use Rattle.std.proofs.Common.{◌∙◌, ◌++◌, ◌∷◌, [], ap, append_assoc, flat_map, map, sym, List}
use Rattle.std.proofs.lemmas.List.{take_all}
use Rattle.protobuf_parse_base.specs.DeclaredNames.{name_bytes}
use Rattle.protobuf_parse_syntax.specs.declared.tree.declaration.MessageStatement.{MessageStatement}
use Rattle.protobuf_parse_syntax.specs.InnerViews.{message_statement_syntax}
use Rattle.protobuf_parse_model.specs.declared.scope.seen.DeclarationKind.TheVariants as kind
use Rattle.protobuf_parse_model.specs.DeclaredAt.{body_at, declare_at}
use Rattle.protobuf_parse_model.specs.DeclaredAtViews.{declared_at_view}
use Rattle.protobuf_parse_model.specs.Declarations.{inside}
use Rattle.protobuf_parse_model.specs.SeenFiles.{name_texts}
use Rattle.protobuf_parse_model.proofs.DeclaredAt.{body_at-view}
use Rattle.protobuf_parse_model.proofs.declared_at.+body.Goals as goal

pub add_message-returns-clause-adds : goal.add_message-returns-clause-adds
add_message-returns-clause-adds t c =
    let outer = name_texts c.args.scope.now.items in
    let m = c.args.message.now in
    let before = map declared_at_view c.args.list.now.items in
    let itself = declare_at outer (name_bytes m.name) kind.Message m.place in
    let scope = inside outer (name_bytes m.name) in
    let inner = λ (ss : List MessageStatement). flat_map (body_at scope)
    (map message_statement_syntax ss) in
    let items = take_all c.loop-statement.statement-index m.body.items
    (rw c.deref-statement-items.ensures.value at c.loop-statement-test.false) in
    c.loop-statement.invariant.adds
    ∙ ap (λ ss. map declared_at_view c.add.new.list.items ++ inner ss) items
    ∙ ap (λ ds. ds ++ inner m.body.items)
    (rw (c.deref.ensures.value, c.deref-2.ensures) at c.in_ok-add.ensures)
    ∙ append_assoc before (itself ∷ []) (inner m.body.items)
    ∙ ap (λ ds. before ++ ds) (sym (body_at-view outer m))
