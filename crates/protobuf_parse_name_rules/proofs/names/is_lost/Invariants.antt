use Rattle.std.proofs.Common.{◌≡◌, ◌++◌, ◌∷◌, length}
use Rattle.protobuf_parse_base.specs.Characters as char
use Rattle.protobuf_parse_base.specs.Names.{fronts}
use Rattle.protobuf_parse_model.specs.Outward.{later_names, names_of}
use Rattle.protobuf_parse_name_rules.specs.InnerViews.{is_meant, viewpoint_view}
use Rattle.protobuf_parse_name_rules.specs.Names.{is_lost}
use Rattle.protobuf_parse_name_rules.proofs.Parts.{lost_names}
use Rattle.protobuf_parse_name_rules.proofs.names.is_lost.Given as goal

abbrev pub invariant-names : goal.invariant-names
invariant-names l =
    let at = viewpoint_view l.at in
    let is = is_meant at.sight l.wanted in
    lost_names at.sight is l.rest (names_of l.names)
    ≡ is_lost at.sight is l.first (l.first ++ char.dot ∷ l.rest) (fronts at.scope)

abbrev pub decreases-names : goal.decreases-names
decreases-names l = length (later_names l.names)
