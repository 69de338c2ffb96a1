use Rattle.std.proofs.Common.{◌≡◌, flat_map, map, take}
use Rattle.protobuf_parse_syntax.specs.Trees.{service_statement_syntax}
use Rattle.protobuf_parse_text_rules.specs.Files.{option_in_service}
use Rattle.protobuf_parse_text_rules.specs.OptionViews.{options_view}
use Rattle.protobuf_parse_name_rules.proofs.services.options_of_service.Given as goal

abbrev pub invariant-body : goal.invariant-body
invariant-body l = options_view l.options.items
    ≡ flat_map option_in_service (map service_statement_syntax (take l.statement-index l.body))
