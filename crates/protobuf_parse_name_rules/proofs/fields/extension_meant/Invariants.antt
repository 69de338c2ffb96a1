use Rattle.std.proofs.Common.{◌≡◌, length}
use Rattle.protobuf_parse_model.specs.Outward.{later_names, names_of}
use Rattle.protobuf_parse_model.proofs.Scopes.{first_meant}
use Rattle.protobuf_parse_name_rules.specs.Fields.{extension_meant}
use Rattle.protobuf_parse_name_rules.specs.InnerViews.{sight_view, viewpoint_view}
use Rattle.protobuf_parse_name_rules.specs.Lookups.{extensions}
use Rattle.protobuf_parse_name_rules.proofs.fields.extension_meant.Given as goal

abbrev pub invariant-names : goal.invariant-names
invariant-names l =
    first_meant (extensions (sight_view l.at.sight.now)) (names_of l.names)
    ≡ extension_meant (viewpoint_view l.at) l.name

abbrev pub decreases-names : goal.decreases-names
decreases-names l = length (later_names l.names)
