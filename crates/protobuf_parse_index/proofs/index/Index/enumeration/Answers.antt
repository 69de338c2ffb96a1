use Rattle.std.proofs.Common.{◌≡◌, List, map, ap, subst, ◌∙◌}
use Rattle.std.specs.Prelude.{bytes_eq}
use Rattle.protobuf_parse_model.specs.Descriptors.{FileDescriptor, file_view}
use Rattle.protobuf_parse_index.specs.Lookups.{enum_named}
use Rattle.protobuf_parse_index.specs.Views.{enum_found, standing_enum}
use Rattle.protobuf_parse_index.proofs.Positions.{found_there}
use Rattle.protobuf_parse_index.proofs.index.Index.enumeration.Goals as goal

pub returns : goal.returns
returns c =
    let name = c.args.full_name.now in
    subst (λ (fs : List FileDescriptor). enum_found c.at_name.result ≡ enum_named fs name)
    (ap (map file_view) c.self.view_is)
    (found_there standing_enum (λ x. bytes_eq name x.name) c.deref.result.now _
    c.at_name.result _ c.at_name.ensures
    (ap (map standing_enum) c.deref.ensures.value ∙ c.self.invariant.walk.enums)
    (c.self.invariant.enums.at name))
