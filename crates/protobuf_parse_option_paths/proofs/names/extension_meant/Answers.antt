use Rattle.std.proofs.Common.{◌∙◌, ap}
use Rattle.protobuf_parse_model.specs.SeenFiles.{name_texts}
use Rattle.protobuf_parse_model.proofs.Scopes.{first_meant, first_meant-full_names}
use Rattle.protobuf_parse_option_paths.specs.Names.{extensions}
use Rattle.protobuf_parse_option_paths.specs.Views.{files_view}
use Rattle.protobuf_parse_option_paths.proofs.names.extension_meant.Goals as goal

pub names-init : goal.names-init
names-init c =
    let of = extensions (files_view c.args.files.now) in
    ap (first_meant of) c.in_ok-names.ensures
    ∙ first_meant-full_names of (name_texts c.args.scope.now) c.args.name.now
