use Rattle.std.proofs.Common.{◌∙◌, List, ap, map, refl}
use Rattle.std.proofs.lemmas.List.{map-append}
use Rattle.protobuf_parse_syntax.specs.declared.tree.field.FieldStatement.{FieldStatement}
use Rattle.protobuf_parse_syntax.specs.Trees.{extend_syntax, field_statement_syntax}
use Rattle.protobuf_parse_model.specs.SeenFiles.{environment_in}
use Rattle.protobuf_parse_model.specs.Descriptors.{Text, field_view, message_view}
use Rattle.protobuf_parse_elaboration.specs.Parts.{extensions_declared, fields_view}
use Rattle.protobuf_parse_elaboration.specs.Messages.{extending}
use Rattle.protobuf_parse_elaboration.proofs.Bodies.{file_with_extend}
use Rattle.protobuf_parse_elaboration.proofs.Gathering.{both_ok}
use Rattle.protobuf_parse_elaboration.proofs.constructs.contents.add_extensions.Goals as goal

pub returns-clause-value : goal.returns-clause-value
returns-clause-value g c =
    let env = environment_in (g.C.CustomOptions.customs c.args.at.now.custom.now)
    c.args.at.now.context in
    let e = extend_syntax c.args.extend.now in
    let old = c.args.contents.now in
    let declared = c.in_ok-declared.declared in
    let is = c.in_ok-declared.ensures.value
    ∙ ap (λ (name : Text). extensions_declared env (extending env name)
    (map field_statement_syntax c.deref-2.result.now)) c.deref.ensures
    ∙ ap (λ (xs : List FieldStatement). extensions_declared env (extending env e.extendee)
    (map field_statement_syntax xs)) c.deref-2.ensures.value in
    both_ok c.append_declared.result (λ f m.
    let extensions = ap (map field_view) f ∙ map-append field_view old.extension.items _ in
    let messages = ap (map message_view) m ∙ map-append message_view old.message_type.items _ in
    file_with_extend env old
    (record {
      message_type = c.append_declared.new.messages;
      enum_type = old.enum_type;
      service = old.service;
      extension = c.append_declared.new.fields;
    }) e (fields_view declared) is extensions messages refl refl)
    c.append_declared.ensures.fields c.append_declared.ensures.messages
