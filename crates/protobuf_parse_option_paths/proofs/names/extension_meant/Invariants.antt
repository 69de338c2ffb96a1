use Rattle.std.proofs.Common.{◌≡◌, length}
use Rattle.protobuf_parse_model.specs.Outward.{later_names, names_of}
use Rattle.protobuf_parse_model.specs.SeenFiles.{name_texts}
use Rattle.protobuf_parse_model.proofs.Scopes.{first_meant}
use Rattle.protobuf_parse_option_paths.specs.Names.{extension_meant, extensions}
use Rattle.protobuf_parse_option_paths.specs.Views.{files_view}
use Rattle.protobuf_parse_option_paths.proofs.names.extension_meant.Given as goal

abbrev pub invariant-names : goal.invariant-names
invariant-names l =
    let files = files_view l.files in
    first_meant (extensions files) (names_of l.names)
    ≡ extension_meant files (name_texts l.fn.scope) l.name

abbrev pub decreases-names : goal.decreases-names
decreases-names l = length (later_names l.names)
