use Rattle.std.proofs.Common.{◌∙◌, ap}
use Rattle.std.specs.Prelude.{is_some}
use Rattle.protobuf_parse_elaboration.specs.OptionViews.{words_seen}
use Rattle.protobuf_parse_elaboration.proofs.Settings.{is_under}
use Rattle.protobuf_parse_elaboration.proofs.constructs.options.entries.has_name.Goals as goal

pub returns : goal.returns
returns g c = c.is_some.ensures ∙ ap is_some c.under_name.ensures
    ∙ is_under (words_seen c.args.table.now) c.args.name.now
