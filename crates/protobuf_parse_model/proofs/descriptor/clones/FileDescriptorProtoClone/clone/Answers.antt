use Rattle.std.proofs.Common.{◌≡◌, rules}
use Rattle.std.specs.Prelude.{option_map, string_bytes}
use Rattle.std.proofs.lemmas.List.Elements.{same_from_all_zip}
use Rattle.protobuf_parse_model.specs.Descriptors.{enum_view, field_view, message_view, service_view}
use Rattle.protobuf_parse_model.specs.Options.{file_options_view}
use Rattle.protobuf_parse_model.proofs.Copies.{file_views, list_views}
use Rattle.protobuf_parse_model.proofs.descriptor.clones.FileDescriptorProtoClone.clone.Goals as goal

pub returns : goal.returns
returns c =
    let options : option_map file_options_view c.in_ok-clone-8.field-0
    ≡ option_map file_options_view c.args.self.now.options = search rules in
    record {
      cases = file_views c.args.self.now
          record {
            name = c.in_ok-text_copy.field-0;
            «package» = c.in_ok-text_copy-2.field-0;
            syntax = c.in_ok-text_copy-3.field-0;
            dependency = c.in_ok-clone.field-0;
            public_dependency = c.in_ok-clone-2.field-0;
            weak_dependency = c.in_ok-clone-3.field-0;
            message_type = c.in_ok-clone-4.field-0;
            enum_type = c.in_ok-clone-5.field-0;
            service = c.in_ok-clone-6.field-0;
            extension = c.in_ok-clone-7.field-0;
            options = c.in_ok-clone-8.field-0;
          }
          c.in_ok-text_copy.ensures
          c.in_ok-text_copy-2.ensures
          c.in_ok-text_copy-3.ensures
          (list_views string_bytes _ _ c.in_ok-clone.ensures.cases.0)
          (same_from_all_zip _ _ _ c.in_ok-clone-2.ensures.cases.0 (λ x y e. e))
          (same_from_all_zip _ _ _ c.in_ok-clone-3.ensures.cases.0 (λ x y e. e))
          (list_views message_view _ _ c.in_ok-clone-4.ensures.cases.0)
          (list_views enum_view _ _ c.in_ok-clone-5.ensures.cases.0)
          (list_views service_view _ _ c.in_ok-clone-6.ensures.cases.0)
          (list_views field_view _ _ c.in_ok-clone-7.ensures.cases.0)
          options;
    }
