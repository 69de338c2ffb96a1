use Rattle.std.proofs.Common.{◌∙◌, ℕ, List, ap, map, string_bytes}
use Rattle.std.specs.Global.{Global}
use Rattle.std.specs.Prelude.{String}
use Rattle.protobuf_parse_model.specs.Descriptors.{file_view}
use Rattle.protobuf_parse_set_rules.specs.Sights.{Known, files_before, sees_file}
use Rattle.protobuf_parse_set_rules.specs.Held.{has, known_view}
use Rattle.protobuf_parse_set_rules.proofs.Knowing.{sight_same}
use Rattle.protobuf_parse_set_rules.proofs.sight.sight_of.Goals as goal

pub returns : goal.returns
returns c =
    let known : Known = known_view c.args.known.now in
    let n = c.args.position in
    sight_same known n (file_view c.args.file.now) (has c.in_ok-files.files)
    (λ to. c.in_ok-files.ensures to
    ∙ ap (λ (imports : List ℕ). sees_file known.publics n imports to)
    (c.deref-2.ensures.value ∙ c.in_ok-imports.ensures
    ∙ ap (λ (paths : List (String Global)). files_before known.paths n (map string_bytes paths))
    c.deref.ensures.value))
