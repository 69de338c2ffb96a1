use Rattle.std.proofs.Common.{◌≡◌, ◌∙◌, List, ap, flat_map, map}
use Rattle.protobuf_parse_lexer.specs.declared.lexer.token.Place.{Place}
use Rattle.protobuf_parse_syntax.specs.Trees.{StatementSyntax}
use Rattle.protobuf_parse_model.specs.declared.descriptor.DescriptorProto.{DescriptorProto}
use Rattle.protobuf_parse_model.specs.declared.descriptor.EnumDescriptorProto.{EnumDescriptorProto}
use Rattle.protobuf_parse_model.specs.declared.descriptor.FieldDescriptorProto.{FieldDescriptorProto}
use Rattle.protobuf_parse_model.specs.declared.descriptor.ServiceDescriptorProto.{ServiceDescriptorProto}
use Rattle.protobuf_parse_model.specs.Descriptors.{enum_view, field_view, message_view}
use Rattle.protobuf_parse_model.specs.Descriptors.{service_view}
use Rattle.protobuf_parse_model.specs.Environment.{Environment}
use Rattle.protobuf_parse_elaboration.specs.declared.constructs.contents.Contents.{Contents}
use Rattle.protobuf_parse_elaboration.specs.declared.constructs.contents.FilePlaces.{FilePlaces}
use Rattle.protobuf_parse_elaboration.specs.NamesOf.{names_of_fields}
use Rattle.protobuf_parse_elaboration.specs.FileDescriptor as specs
use Rattle.protobuf_parse_elaboration.specs.FileDescriptor.{file_enums_named, file_extensions_named}
use Rattle.protobuf_parse_elaboration.specs.FileDescriptor.{file_messages_named}
use Rattle.protobuf_parse_elaboration.specs.NamesOf.{names_of_services}
use Rattle.protobuf_parse_elaboration.specs.FileParts.{AreFilePlaces, FileParts, parts_of_file}
use Rattle.protobuf_parse_elaboration.specs.FileParts.{parts_view, places}
use Rattle.protobuf_parse_elaboration.specs.NamesOf.{message_name, names_of_enums}
use Rattle.protobuf_parse_elaboration.specs.NamesOf.{names_of_messages}
use Rattle.protobuf_parse_elaboration.proofs.Gathering.{on_ok}
use Rattle.protobuf_parse_elaboration.proofs.Naming.{enums_named, fields_named, messages_named}
use Rattle.protobuf_parse_elaboration.proofs.Naming.{services_named}
use Rattle.protobuf_parse_elaboration.proofs.SameNames.{file-enums-names, file-extensions-names}
use Rattle.protobuf_parse_elaboration.proofs.SameNames.{file-messages-names, services-names}
use Rattle.protobuf_parse_elaboration.proofs.Told.{four_told, names_of, same_length}
use Rattle.protobuf_parse_elaboration.proofs.constructs.contents.tell_file_names.Goals as goal

-- the names and the places of what the statements declare are those of the contents
module _ (contents : Contents) (at : FilePlaces) (ss : List StatementSyntax) (env : Environment)
    (is : parts_view contents ≡ parts_of_file env ss) (are : AreFilePlaces at ss) where
  messages-named : (xs : List DescriptorProto) → xs ≡ contents.message_type.items
      → map (λ (f : DescriptorProto). message_name (message_view f)) xs
      ≡ names_of (flat_map file_messages_named ss)
  messages-named xs e = ap (map (λ (f : DescriptorProto). message_name (message_view f))) e
      ∙ messages_named _
      ∙ ap (λ (p : FileParts). names_of_messages p.message_type) is ∙ file-messages-names env ss

  messages-placed : (ps : List Place) → ps ≡ at.messages.items → ps
      ≡ places (flat_map file_messages_named ss)
  messages-placed ps e = e ∙ are.messages

  enums-named : (xs : List EnumDescriptorProto) → xs ≡ contents.enum_type.items
      → map (λ (f : EnumDescriptorProto). (enum_view f).name) xs
      ≡ names_of (flat_map file_enums_named ss)
  enums-named xs e = ap (map (λ (f : EnumDescriptorProto). (enum_view f).name)) e ∙ enums_named _
      ∙ ap (λ (p : FileParts). names_of_enums p.enum_type) is ∙ file-enums-names env ss

  enums-placed : (ps : List Place) → ps ≡ at.enums.items → ps
      ≡ places (flat_map file_enums_named ss)
  enums-placed ps e = e ∙ are.enums

  extensions-named : (xs : List FieldDescriptorProto) → xs ≡ contents.extension.items
      → map (λ (f : FieldDescriptorProto). (field_view f).name) xs
      ≡ names_of (flat_map file_extensions_named ss)
  extensions-named xs e = ap (map (λ (f : FieldDescriptorProto). (field_view f).name)) e
      ∙ fields_named _
      ∙ ap (λ (p : FileParts). names_of_fields p.extension) is ∙ file-extensions-names env ss

  extensions-placed : (ps : List Place) → ps ≡ at.extensions.items → ps
      ≡ places (flat_map file_extensions_named ss)
  extensions-placed ps e = e ∙ are.extensions

  services-named : (xs : List ServiceDescriptorProto) → xs ≡ contents.service.items
      → map (λ (f : ServiceDescriptorProto). (service_view f).name) xs
      ≡ names_of (flat_map specs.services_named ss)
  services-named xs e = ap (map (λ (f : ServiceDescriptorProto). (service_view f).name)) e
      ∙ services_named _
      ∙ ap (λ (p : FileParts). names_of_services p.service) is ∙ services-names env ss

  services-placed : (ps : List Place) → ps ≡ at.services.items → ps
      ≡ places (flat_map specs.services_named ss)
  services-placed ps e = e ∙ are.services

pub tell_repeated-requires : goal.tell_repeated-requires
tell_repeated-requires c =
    let r = c.requires in
    let of = c.args.contents.now in
    let at = c.args.places.now in
    record {
      same = same_length (λ (f : DescriptorProto). message_name (message_view f)) _ _
          (flat_map file_messages_named r.0)
          (messages-named of at r.0 r.1 r.2 r.3 _ c.deref.ensures.value)
          (messages-placed of at r.0 r.1 r.2 r.3 _ c.deref-2.ensures.value);
    }

pub tell_repeated-requires-2 : goal.tell_repeated-requires-2
tell_repeated-requires-2 c =
    let r = c.requires in
    let of = c.args.contents.now in
    let at = c.args.places.now in
    record {
      same = same_length (λ (f : EnumDescriptorProto). (enum_view f).name) _ _
          (flat_map file_enums_named r.0)
          (enums-named of at r.0 r.1 r.2 r.3 _ c.deref-3.ensures.value)
          (enums-placed of at r.0 r.1 r.2 r.3 _ c.deref-4.ensures.value);
    }

pub tell_repeated-requires-3 : goal.tell_repeated-requires-3
tell_repeated-requires-3 c =
    let r = c.requires in
    let of = c.args.contents.now in
    let at = c.args.places.now in
    record {
      same = same_length (λ (f : FieldDescriptorProto). (field_view f).name) _ _
          (flat_map file_extensions_named r.0)
          (extensions-named of at r.0 r.1 r.2 r.3 _ c.deref-5.ensures.value)
          (extensions-placed of at r.0 r.1 r.2 r.3 _ c.deref-6.ensures.value);
    }

pub tell_repeated-requires-4 : goal.tell_repeated-requires-4
tell_repeated-requires-4 c =
    let r = c.requires in
    let of = c.args.contents.now in
    let at = c.args.places.now in
    record {
      same = same_length (λ (f : ServiceDescriptorProto). (service_view f).name) _ _
          (flat_map specs.services_named r.0)
          (services-named of at r.0 r.1 r.2 r.3 _ c.deref-7.ensures.value)
          (services-placed of at r.0 r.1 r.2 r.3 _ c.deref-8.ensures.value);
    }

pub returns : goal.returns
returns c = λ ss env is are.
    let of = c.args.contents.now in
    let at = c.args.places.now in
    let e1 = c.in_ok-tell_repeated.ensures (flat_map file_messages_named ss)
    (messages-named of at ss env is are _ c.deref.ensures.value)
    (messages-placed of at ss env is are _ c.deref-2.ensures.value) in
    let e2 = c.in_ok-tell_repeated-2.ensures (flat_map file_enums_named ss)
    (enums-named of at ss env is are _ c.deref-3.ensures.value)
    (enums-placed of at ss env is are _ c.deref-4.ensures.value) in
    let e3 = c.in_ok-tell_repeated-3.ensures (flat_map file_extensions_named ss)
    (extensions-named of at ss env is are _ c.deref-5.ensures.value)
    (extensions-placed of at ss env is are _ c.deref-6.ensures.value) in
    on_ok c.tell_repeated-4.result (λ h. four_told _ _ _ _ _ _ _ _ _ e1 e2 e3 h)
    (c.tell_repeated-4.ensures (flat_map specs.services_named ss)
    (services-named of at ss env is are _ c.deref-7.ensures.value)
    (services-placed of at ss env is are _ c.deref-8.ensures.value))
