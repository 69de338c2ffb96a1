use Rattle.std.proofs.Common.{◌≡◌, ◌∙◌, ap, map, rules}
use Rattle.std.specs.Prelude.{option_map, string_bytes}
use Rattle.std.proofs.lemmas.List.{take_all}
use Rattle.std.proofs.lemmas.List.Elements.{same_from_all_zip}
use Rattle.protobuf_parse_model.specs.Descriptors.{enum_view, field_view, message_view, oneof_view}
use Rattle.protobuf_parse_model.specs.Options.{message_options_view}
use Rattle.protobuf_parse_model.specs.declared.descriptor.DescriptorProto.{DescriptorProto}
use Rattle.protobuf_parse_model.specs.declared.descriptor.DescriptorProto.{out-DescriptorProto}
use Rattle.protobuf_parse_model.specs.declared.descriptor.DescriptorProto.TheOpen.{DescriptorProto-F}
use Rattle.protobuf_parse_model.proofs.Copies.{list_views, message_views, parts_views}
use Rattle.protobuf_parse_model.proofs.descriptor.clones.DescriptorProtoClone.+clone.Goals as goal

pub returns : goal.returns
returns t c =
    let old : DescriptorProto-F DescriptorProto = out-DescriptorProto c.args.self.now in
    let copy : DescriptorProto-F DescriptorProto = record {
      name = c.in_ok-clone-2.field-0;
      field = c.in_ok-clone-3.field-0;
      oneof_decl = c.in_ok-clone-4.field-0;
      nested_type = c.nested.nested_type;
      enum_type = c.in_ok-clone-5.field-0;
      extension = c.in_ok-clone-6.field-0;
      extension_range = c.in_ok-clone-7.field-0;
      reserved_range = c.in_ok-clone-8.field-0;
      reserved_name = c.in_ok-clone-9.field-0;
      options = c.in_ok-clone-10.field-0;
    } in
    let options : option_map message_options_view copy.options
    ≡ option_map message_options_view old.options = search rules in
    record {
      cases = message_views c.args.self.now copy
          (parts_views old copy c.in_ok-clone-2.ensures.cases
          (list_views field_view _ _ c.in_ok-clone-3.ensures.cases.0)
          (list_views oneof_view _ _ c.in_ok-clone-4.ensures.cases.0)
          (list_views enum_view _ _ c.in_ok-clone-5.ensures.cases.0)
          (list_views field_view _ _ c.in_ok-clone-6.ensures.cases.0)
          (same_from_all_zip _ _ _ c.in_ok-clone-7.ensures.cases.0 (λ x y e. e))
          (same_from_all_zip _ _ _ c.in_ok-clone-8.ensures.cases.0 (λ x y e. e))
          (list_views string_bytes _ _ c.in_ok-clone-9.ensures.cases.0) options)
          (c.nested.invariant ∙ ap (map message_view)
          (take_all c.nested.nested-index c.deref-nested-items.result.now c.nested-test.false
          ∙ c.deref-nested-items.ensures.value));
    }
