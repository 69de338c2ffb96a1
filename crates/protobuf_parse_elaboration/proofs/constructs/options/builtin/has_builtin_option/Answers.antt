use Rattle.std.proofs.Common.{◌∙◌, ap}
use Rattle.protobuf_parse_model.specs.Duplicates.{stands_in}
use Rattle.protobuf_parse_model.specs.OptionTables.{option_names_in}
use Rattle.protobuf_parse_elaboration.proofs.Settings.{names_seen}
use Rattle.protobuf_parse_elaboration.proofs.constructs.options.builtin.has_builtin_option.Goals as goal

pub returns : goal.returns
returns c = c.has_name.ensures
    ∙ ap (stands_in c.args.name.now) (names_seen c.table_of.result.now
    ∙ ap option_names_in c.table_of.ensures)
