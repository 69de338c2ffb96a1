use Rattle.std.proofs.Common.{◌≡◌, List, map, ap, subst, ◌∙◌}
use Rattle.std.specs.Prelude.{bytes_eq}
use Rattle.protobuf_parse_model.specs.Descriptors.{FileDescriptor, file_view}
use Rattle.protobuf_parse_index.specs.Lookups.{extension_named}
use Rattle.protobuf_parse_index.specs.Views.{extension_found, standing_extension}
use Rattle.protobuf_parse_index.proofs.Positions.{found_there}
use Rattle.protobuf_parse_index.proofs.index.Index.extension_by_name.Goals as goal

pub returns : goal.returns
returns c =
    let name = c.args.full_name.now in
    subst (λ (fs : List FileDescriptor). extension_found c.at_name.result ≡ extension_named fs name)
    (ap (map file_view) c.self.view_is)
    (found_there standing_extension (λ x. bytes_eq name x.name) c.deref.result.now _
    c.at_name.result _ c.at_name.ensures
    (ap (map standing_extension) c.deref.ensures.value ∙ c.self.invariant.walk.extensions)
    (c.self.invariant.extensions.at name))
