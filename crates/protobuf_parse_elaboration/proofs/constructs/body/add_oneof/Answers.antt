use Rattle.std.proofs.Common.{◌∙◌, ap, map, refl}
use Rattle.std.proofs.lemmas.List.{map-append}
use Rattle.protobuf_parse_syntax.specs.Trees.{oneof_syntax}
use Rattle.protobuf_parse_model.specs.SeenFiles.{environment_in}
use Rattle.protobuf_parse_model.specs.Descriptors.{oneof_view}
use Rattle.protobuf_parse_elaboration.proofs.Bodies.{with_oneof}
use Rattle.protobuf_parse_elaboration.proofs.constructs.body.add_oneof.Goals as goal

pub returns-clause-value : goal.returns-clause-value
returns-clause-value g c =
    let env = environment_in (g.C.CustomOptions.customs c.args.at.now.custom.now)
    c.args.at.now.context in
    let old = c.args.body.now in
    let oneofs = ap (map oneof_view) c.in_ok-push.ensures.items
    ∙ map-append oneof_view old.oneof_decl.items _ in
    with_oneof env old
    (record {
      field = c.push_fields_of_oneof.new.fields;
      oneof_decl = c.push.new.self;
      nested_type = c.push_fields_of_oneof.new.messages;
      enum_type = old.enum_type;
      extension = old.extension;
    }) c.len.result
    _ (c.len.ensures ∙ old.oneof_decl.ok.0) oneofs refl refl (oneof_syntax c.args.oneof.now)
    c.in_ok-descriptor.ensures.value c.in_ok-push_fields_of_oneof.ensures.fields
    c.in_ok-push_fields_of_oneof.ensures.messages
