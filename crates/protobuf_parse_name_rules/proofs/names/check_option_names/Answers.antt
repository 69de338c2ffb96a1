use Rattle.std.proofs.Common.{◌+◌, take}
use Rattle.protobuf_parse_text_rules.specs.OptionViews.{option_view, options_view}
use Rattle.protobuf_parse_text_rules.specs.Views.{told}
use Rattle.protobuf_parse_name_rules.specs.InnerViews.{viewpoint_view}
use Rattle.protobuf_parse_name_rules.specs.Names.{named_option_breaches}
use Rattle.protobuf_parse_name_rules.proofs.Sets.{map_item, told_next}
use Rattle.protobuf_parse_name_rules.proofs.names.check_option_names.Goals as goal

pub options-preserved : goal.options-preserved
options-preserved c =
    let options = c.args.options.now in
    let i = c.options.option-index in
    let x = c.option-item.result in
    told_next (named_option_breaches (viewpoint_view c.args.at.now)) (told c.args.found.now)
    (told c.options.found) (told c.check_option_name.new.found) (options_view (take i options))
    (options_view (take (i + 1) options)) (option_view x) c.options.invariant
    c.in_ok-check_option_name.ensures
    (map_item option_view options i x c.options-test.true c.option-item.is)
