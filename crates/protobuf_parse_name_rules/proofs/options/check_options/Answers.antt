use Rattle.std.proofs.Common.{◌∙◌, ◌++◌, [], List, ap, flat_map, map}
use Rattle.std.proofs.lemmas.Result.{on_ok_weaker}
use Rattle.protobuf_parse_text_rules.specs.OptionViews.{options_view}
use Rattle.protobuf_parse_text_rules.specs.Views.{told}
use Rattle.protobuf_parse_name_rules.specs.Fields.{CustomOption, custom_options}
use Rattle.protobuf_parse_name_rules.specs.InnerViews.{custom_view, viewpoint_view}
use Rattle.protobuf_parse_name_rules.specs.Names.{named_option_breaches}
use Rattle.protobuf_parse_name_rules.specs.Options.{constant_breaches, set_again}
use Rattle.protobuf_parse_name_rules.proofs.Bodies.{options_told}
use Rattle.protobuf_parse_name_rules.proofs.options.check_options.Goals as goal

pub returns : goal.returns
returns c =
    let at = viewpoint_view c.args.at.now in
    let os = options_view c.args.options.now in
    let cs : List CustomOption = custom_options at c.args.construct os in
    let t1 = told c.check_option_names.new.found in
    let t2 = told c.tell_set_again.new.found in
    on_ok_weaker c.check_constants.result
    (λ h. options_told at cs (flat_map (named_option_breaches at) os) (told c.args.found.now) t1 t2
    (told c.check_constants.new.found) c.in_ok-check_option_names.ensures
    (c.in_ok-tell_set_again.ensures
    ∙ ap (λ (all : List CustomOption). t1 ++ set_again at [] all)
    (ap (map custom_view) c.deref.ensures.value ∙ c.in_ok-customs.ensures))
    (h ∙ ap (λ (all : List CustomOption). t2 ++ flat_map (constant_breaches at) all)
    (ap (map custom_view) c.deref-2.ensures.value ∙ c.in_ok-customs.ensures)))
    c.check_constants.ensures
