use Rattle.std.proofs.Common.{◌∙◌, ap}
use Rattle.protobuf_parse_model.specs.SeenFiles.{name_texts}
use Rattle.protobuf_parse_name_rules.specs.InnerViews.{is_meant, sight_view}
use Rattle.protobuf_parse_name_rules.proofs.Parts.{lost_full_names, lost_names}
use Rattle.protobuf_parse_name_rules.proofs.names.is_lost.Goals as goal

pub names-init : goal.names-init
names-init c =
    let sight = sight_view c.args.at.now.sight.now in
    let is = is_meant sight c.args.wanted in
    ap (lost_names sight is c.args.rest.now) c.in_ok-names.ensures
    ∙ lost_full_names sight is c.args.rest.now c.args.first.now
    (name_texts c.args.at.now.scope.now) c.requires
