use Rattle.std.proofs.Common.{◌∙◌, ap, option_map}
use Rattle.protobuf_parse_elaboration.specs.OptionViews.{kind_seen}
use Rattle.protobuf_parse_elaboration.proofs.Settings.{kind_under}
use Rattle.protobuf_parse_elaboration.proofs.constructs.options.tell.kind_of.Goals as goal

pub returns : goal.returns
returns c = ap (option_map kind_seen) c.under_name.ensures
    ∙ kind_under c.args.table.now c.args.name.now
