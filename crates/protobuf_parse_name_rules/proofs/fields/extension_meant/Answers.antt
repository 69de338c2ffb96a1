use Rattle.std.proofs.Common.{◌∙◌, ap}
use Rattle.protobuf_parse_model.specs.SeenFiles.{name_texts}
use Rattle.protobuf_parse_model.proofs.Scopes.{first_meant, first_meant-full_names}
use Rattle.protobuf_parse_name_rules.specs.InnerViews.{sight_view}
use Rattle.protobuf_parse_name_rules.specs.Lookups.{extensions}
use Rattle.protobuf_parse_name_rules.proofs.fields.extension_meant.Goals as goal

pub names-init : goal.names-init
names-init c =
    let of = extensions (sight_view c.args.at.now.sight.now) in
    ap (first_meant of) c.in_ok-names.ensures
    ∙ first_meant-full_names of (name_texts c.args.at.now.scope.now) c.args.name.now
