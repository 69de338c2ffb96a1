use Rattle.std.proofs.Common.{◌≡◌, rules}
use Rattle.std.specs.Prelude.{option_map, string_bytes}
use Rattle.std.proofs.lemmas.List.Elements.{same_from_all_zip}
use Rattle.protobuf_parse_model.specs.Descriptors.{enum_value_view}
use Rattle.protobuf_parse_model.specs.Options.{enum_options_view}
use Rattle.protobuf_parse_model.proofs.Copies.{enum_views, list_views}
use Rattle.protobuf_parse_model.proofs.descriptor.clones.EnumDescriptorProtoClone.clone.Goals as goal

pub returns : goal.returns
returns c =
    let options : option_map enum_options_view c.in_ok-clone-5.field-0
    ≡ option_map enum_options_view c.args.self.now.options = search rules in
    record {
      cases = enum_views c.args.self.now
          record {
            name = c.in_ok-clone.field-0;
            value = c.in_ok-clone-2.field-0;
            reserved_range = c.in_ok-clone-3.field-0;
            reserved_name = c.in_ok-clone-4.field-0;
            options = c.in_ok-clone-5.field-0;
          }
          c.in_ok-clone.ensures.cases
          (list_views enum_value_view _ _ c.in_ok-clone-2.ensures.cases.0)
          (same_from_all_zip _ _ _ c.in_ok-clone-3.ensures.cases.0 (λ x y e. e))
          (list_views string_bytes _ _ c.in_ok-clone-4.ensures.cases.0)
          options;
    }
