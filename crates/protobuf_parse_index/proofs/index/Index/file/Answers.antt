use Rattle.std.proofs.Common.{◌≡◌, List, map, refl, ap, subst, sym, ◌∙◌}
use Rattle.std.specs.Prelude.{bytes_eq}
use Rattle.protobuf_parse_model.specs.Descriptors.{FileDescriptor, file_view}
use Rattle.protobuf_parse_index.specs.Lookups.{file_named}
use Rattle.protobuf_parse_index.specs.Views.{file_found}
use Rattle.protobuf_parse_index.specs.Walk.{path_of}
use Rattle.protobuf_parse_index.proofs.Positions.{found_there}
use Rattle.protobuf_parse_index.proofs.index.Index.file.Goals as goal

pub returns : goal.returns
returns c =
    let path = c.args.path.now in
    subst (λ (fs : List FileDescriptor). file_found c.at_name.result ≡ file_named fs path)
    (ap (map file_view) c.self.view_is)
    (found_there file_view (λ (f : FileDescriptor). bytes_eq path (path_of f)) _ _
    c.at_name.result _ c.at_name.ensures refl (c.self.invariant.paths.at path))
