use Rattle.std.proofs.Common.{◌≡◌, rules}
use Rattle.std.specs.Prelude.{option_map}
use Rattle.protobuf_parse_model.specs.Descriptors.{method_view}
use Rattle.protobuf_parse_model.specs.Options.{service_options_view}
use Rattle.protobuf_parse_model.proofs.Copies.{service_views, list_views}
use Rattle.protobuf_parse_model.proofs.descriptor.clones.ServiceDescriptorProtoClone.clone.Goals as goal

pub returns : goal.returns
returns c =
    let options : option_map service_options_view c.in_ok-clone-3.field-0
    ≡ option_map service_options_view c.args.self.now.options = search rules in
    record {
      cases = service_views c.args.self.now
          record {
            name = c.in_ok-clone.field-0;
            method = c.in_ok-clone-2.field-0;
            options = c.in_ok-clone-3.field-0;
          }
          c.in_ok-clone.ensures.cases
          (list_views method_view _ _ c.in_ok-clone-2.ensures.cases.0)
          options;
    }
