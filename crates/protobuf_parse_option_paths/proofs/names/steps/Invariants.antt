use Rattle.std.proofs.Common.{◌≡◌, map, drop}
use denote.Shadow.{shadow}
use denote.Text.{Utf8}
use Rattle.protobuf_parse_syntax.specs.Trees.{option_part_syntax}
use Rattle.protobuf_parse_model.specs.SeenFiles.{name_texts}
use Rattle.protobuf_parse_option_paths.specs.Names.{steps}
use Rattle.protobuf_parse_option_paths.specs.Views.{files_view}
use Rattle.protobuf_parse_option_paths.proofs.Stepping.{behind}
use Rattle.protobuf_parse_option_paths.proofs.names.steps.Given as goal

abbrev pub invariant-each : goal.invariant-each
invariant-each l =
    let files = files_view l.files in
    let scope = name_texts l.scope in
    shadow (Utf8 l.holder)
    × (steps files scope l.message (map option_part_syntax l.parts)
    ≡ behind l.steps.items
    (steps files scope l.holder (map option_part_syntax (drop l.part-index l.parts))))
