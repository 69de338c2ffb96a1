use Rattle.std.proofs.Common.{◌∙◌, ap, map, sym}
use Rattle.std.specs.Prelude.{◌++◌}
use Rattle.protobuf_parse_model.specs.declared.descriptor.DescriptorProto.{DescriptorProto}
use Rattle.protobuf_parse_model.specs.declared.descriptor.EnumDescriptorProto.{EnumDescriptorProto}
use Rattle.protobuf_parse_model.specs.declared.descriptor.FieldDescriptorProto.{FieldDescriptorProto}
use Rattle.protobuf_parse_model.specs.declared.descriptor.OneofDescriptorProto.{OneofDescriptorProto}
use Rattle.protobuf_parse_model.specs.Descriptors.{enum_view, field_view, message_view, oneof_view}
use Rattle.protobuf_parse_model.specs.Duplicates.{duplicates}
use Rattle.protobuf_parse_model.specs.Faults.{found}
use Rattle.protobuf_parse_elaboration.proofs.Gathering.{on_ok}
use Rattle.protobuf_parse_syntax.specs.InnerViews.{message_statement_syntax}
use Rattle.protobuf_parse_model.specs.Environment.{env_inside}
use Rattle.protobuf_parse_model.specs.SeenFiles.{environment_in}
use Rattle.protobuf_parse_elaboration.specs.NamesOf.{names_of_fields}
use Rattle.protobuf_parse_elaboration.specs.NamesOf.{message_name, names_of_enums}
use Rattle.protobuf_parse_elaboration.specs.NamesOf.{names_of_messages, names_of_oneofs}
use Rattle.protobuf_parse_elaboration.specs.Messages as messages
use Rattle.protobuf_parse_elaboration.specs.Parts.{BodyParts}
use Rattle.protobuf_parse_elaboration.proofs.Naming.{enums_named, fields_named, messages_named}
use Rattle.protobuf_parse_elaboration.proofs.Naming.{oneofs_named}
use Rattle.protobuf_parse_elaboration.proofs.SameNames.{enums-names, extensions-names}
use Rattle.protobuf_parse_elaboration.proofs.SameNames.{fields-from-names, messages-names}
use Rattle.protobuf_parse_elaboration.proofs.SameNames.{oneofs-names}
use Rattle.protobuf_parse_elaboration.proofs.StatedOptions.{set_seen}
use Rattle.protobuf_parse_elaboration.proofs.Told.{five_told, names_of}
use Rattle.protobuf_parse_elaboration.proofs.constructs.message.tell_body_names.Goals as goal

pub tell_names-requires : goal.tell_names-requires
tell_names-requires g c =
    let env = env_inside (environment_in (g.C.CustomOptions.customs c.args.at.now.custom.now)
    c.args.at.now.context) c.args.name.now in
    let ss = map message_statement_syntax c.args.statements.now in
    record {
      named = ap (map (λ (f : FieldDescriptorProto). (field_view f).name)) c.deref.ensures.value
          ∙ fields_named _ ∙ ap (λ (b : BodyParts). names_of_fields b.field) c.requires
          ∙ fields-from-names env 0 ss
          ∙ ap names_of (sym (set_seen
          (messages.fields_named) message_statement_syntax c.args.statements.now));
    }

pub tell_names-requires-2 : goal.tell_names-requires-2
tell_names-requires-2 g c =
    let env = env_inside (environment_in (g.C.CustomOptions.customs c.args.at.now.custom.now)
    c.args.at.now.context) c.args.name.now in
    let ss = map message_statement_syntax c.args.statements.now in
    record {
      named = ap (map (λ (f : OneofDescriptorProto). (oneof_view f).name)) c.deref-2.ensures.value
          ∙ oneofs_named _ ∙ ap (λ (b : BodyParts). names_of_oneofs b.oneof_decl) c.requires
          ∙ oneofs-names env ss
          ∙ ap names_of (sym (set_seen
          (messages.oneofs_named env.syntax) message_statement_syntax c.args.statements.now));
    }

pub tell_names-requires-3 : goal.tell_names-requires-3
tell_names-requires-3 g c =
    let env = env_inside (environment_in (g.C.CustomOptions.customs c.args.at.now.custom.now)
    c.args.at.now.context) c.args.name.now in
    let ss = map message_statement_syntax c.args.statements.now in
    record {
      named = ap (map (λ (f : FieldDescriptorProto). (field_view f).name)) c.deref-3.ensures.value
          ∙ fields_named _ ∙ ap (λ (b : BodyParts). names_of_fields b.extension) c.requires
          ∙ extensions-names env ss
          ∙ ap names_of (sym (set_seen
          (messages.extensions_named) message_statement_syntax c.args.statements.now));
    }

pub tell_names-requires-4 : goal.tell_names-requires-4
tell_names-requires-4 g c =
    let env = env_inside (environment_in (g.C.CustomOptions.customs c.args.at.now.custom.now)
    c.args.at.now.context) c.args.name.now in
    let ss = map message_statement_syntax c.args.statements.now in
    record {
      named = ap (map (λ (f : EnumDescriptorProto). (enum_view f).name)) c.deref-4.ensures.value
          ∙ enums_named _ ∙ ap (λ (b : BodyParts). names_of_enums b.enum_type) c.requires
          ∙ enums-names env ss
          ∙ ap names_of (sym (set_seen
          (messages.enums_named) message_statement_syntax c.args.statements.now));
    }

pub tell_names-requires-5 : goal.tell_names-requires-5
tell_names-requires-5 g c =
    let env = env_inside (environment_in (g.C.CustomOptions.customs c.args.at.now.custom.now)
    c.args.at.now.context) c.args.name.now in
    let ss = map message_statement_syntax c.args.statements.now in
    record {
      named = ap (map (λ (f : DescriptorProto). message_name
          (message_view f))) c.deref-5.ensures.value
          ∙ messages_named _ ∙ ap (λ (b : BodyParts). names_of_messages b.nested_type) c.requires
          ∙ messages-names env ss
          ∙ ap names_of (sym (set_seen
          (messages.messages_named) message_statement_syntax c.args.statements.now));
    }

pub returns : goal.returns
returns g c =
    let env = env_inside (environment_in (g.C.CustomOptions.customs c.args.at.now.custom.now)
    c.args.at.now.context) c.args.name.now in
    let xs = c.args.statements.now in
    let e1 = c.in_ok-tell_names.ensures
    ∙ ap (λ ds. found c.args.faults.now ++ duplicates ds)
    (set_seen messages.fields_named message_statement_syntax xs) in
    let e2 = c.in_ok-tell_names-2.ensures
    ∙ ap (λ ds. found c.tell_names.new.faults ++ duplicates ds)
    (set_seen (messages.oneofs_named env.syntax) message_statement_syntax xs) in
    let e3 = c.in_ok-tell_names-3.ensures
    ∙ ap (λ ds. found c.tell_names-2.new.faults ++ duplicates ds)
    (set_seen messages.extensions_named message_statement_syntax xs) in
    let e4 = c.in_ok-tell_names-4.ensures
    ∙ ap (λ ds. found c.tell_names-3.new.faults ++ duplicates ds)
    (set_seen messages.enums_named message_statement_syntax xs) in
    on_ok c.tell_names-5.result (λ h. five_told _ _ _ _ _ _ _ _ _ _ _ e1 e2 e3 e4
    (h ∙ ap (λ ds. found c.tell_names-4.new.faults ++ duplicates ds)
    (set_seen messages.messages_named message_statement_syntax xs)))
    c.tell_names-5.ensures
