use Rattle.std.proofs.Common.{◌≡◌, map, take}
use Rattle.protobuf_parse_syntax.specs.Trees.{option_statement_syntax}
use Rattle.protobuf_parse_text_rules.specs.Files.{option_of}
use Rattle.protobuf_parse_text_rules.specs.OptionViews.{options_view}
use Rattle.protobuf_parse_name_rules.proofs.services.options_in.Given as goal

abbrev pub invariant-statements : goal.invariant-statements
invariant-statements l = options_view l.options.items
    ≡ map option_of (map option_statement_syntax (take l.statement-index l.statements))
