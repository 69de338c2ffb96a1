use Rattle.std.proofs.Common.{◌∙◌, ap, map, refl}
use Rattle.std.proofs.lemmas.List.{map-append}
use Rattle.protobuf_parse_syntax.specs.Trees.{field_statement_syntax}
use Rattle.protobuf_parse_model.specs.SeenFiles.{environment_in}
use Rattle.protobuf_parse_model.specs.Descriptors.{field_view, message_view, oneof_view}
use Rattle.protobuf_parse_elaboration.specs.Parts.{declared_view}
use Rattle.protobuf_parse_elaboration.proofs.Bodies.{with_own}
use Rattle.protobuf_parse_elaboration.proofs.constructs.body.add_in_own_oneof.Goals as goal

pub returns-clause-value : goal.returns-clause-value
returns-clause-value g c =
    let env = environment_in (g.C.CustomOptions.customs c.args.at.now.custom.now)
    c.args.at.now.context in
    let old = c.args.body.now in
    let oneofs = ap (map oneof_view) c.in_ok-push.ensures.items
    ∙ map-append oneof_view old.oneof_decl.items _ in
    let fields = ap (map field_view) c.in_ok-push_to.ensures.fields
    ∙ map-append field_view old.field.items _ in
    let nested = ap (map message_view) c.in_ok-push_to.ensures.messages
    ∙ map-append message_view old.nested_type.items _ in
    with_own env old
    (record {
      field = c.push_to.new.fields;
      oneof_decl = c.push.new.self;
      nested_type = c.push_to.new.messages;
      enum_type = old.enum_type;
      extension = old.extension;
    })
    c.len.result _ (c.len.ensures ∙ old.oneof_decl.ok.0) oneofs refl refl
    (field_statement_syntax c.args.statement.now)
    (declared_view c.in_ok-declared.declared) c.requires.own c.in_ok-declared.ensures.value
    c.in_ok-own.ensures fields nested
