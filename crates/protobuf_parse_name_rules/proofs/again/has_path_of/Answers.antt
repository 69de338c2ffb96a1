use Rattle.std.proofs.Common.{◌∙◌, ap}
use Rattle.protobuf_parse_name_rules.specs.InnerViews.{has_path}
use Rattle.protobuf_parse_name_rules.proofs.again.has_path_of.Goals as goal

pub returns : goal.returns
returns c =
    c.has_path.ensures
    ∙ ap (has_path c.args.paths.now) (c.deref.ensures.value ∙ c.in_ok-path.ensures)
