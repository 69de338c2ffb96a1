use Rattle.std.proofs.Common.{◌∙◌, ◌&&◌, Bool, ap, sym}
use Rattle.std.proofs.lemmas.Result.{IfOk-weaker}
use Rattle.protobuf_parse_name_rules.specs.InnerViews.{custom_view, fields_view, has_path}
use Rattle.protobuf_parse_name_rules.specs.Options.{path_of}
use Rattle.protobuf_parse_name_rules.proofs.again.is_set.Goals as goal

pub returns : goal.returns
returns c =
    let has = has_path c.args.paths.now in
    IfOk-weaker c.has_path_of.result _ _
    (λ b e. e ∙ ap (λ xs. has (path_of (fields_view xs))) c.deref.ensures.value
    ∙ ap (λ (s : Bool). s && has (path_of (custom_view c.args.custom.now).fields))
    (sym c.if-not-is_single.false ∙ c.is_single.ensures))
    c.has_path_of.ensures
