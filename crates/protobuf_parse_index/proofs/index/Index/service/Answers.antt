use Rattle.std.proofs.Common.{◌≡◌, List, map, ap, subst, ◌∙◌}
use Rattle.std.specs.Prelude.{bytes_eq}
use Rattle.protobuf_parse_model.specs.Descriptors.{FileDescriptor, file_view}
use Rattle.protobuf_parse_index.specs.Lookups.{service_named}
use Rattle.protobuf_parse_index.specs.Views.{service_found, standing_service}
use Rattle.protobuf_parse_index.proofs.Positions.{found_there}
use Rattle.protobuf_parse_index.proofs.index.Index.service.Goals as goal

pub returns : goal.returns
returns c =
    let name = c.args.full_name.now in
    subst (λ (fs : List FileDescriptor). service_found c.at_name.result ≡ service_named fs name)
    (ap (map file_view) c.self.view_is)
    (found_there standing_service (λ x. bytes_eq name x.name) c.deref.result.now _
    c.at_name.result _ c.at_name.ensures
    (ap (map standing_service) c.deref.ensures.value ∙ c.self.invariant.services)
    (c.self.invariant.service_names.at name))
