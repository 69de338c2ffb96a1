use Rattle.std.proofs.Common.{◌≡◌, flat_map, map, take}
use Rattle.protobuf_parse_syntax.specs.Trees.{statement_syntax}
use Rattle.protobuf_parse_text_rules.specs.Files.{option_in_file}
use Rattle.protobuf_parse_text_rules.specs.OptionViews.{options_view}
use Rattle.protobuf_parse_name_rules.proofs.messages.options_of_file.Given as goal

abbrev pub invariant-statements : goal.invariant-statements
invariant-statements l = options_view l.options.items
    ≡ flat_map option_in_file (map statement_syntax (take l.statement-index l.statements))
