use Rattle.std.proofs.Common.{◌≡◌, map, drop}
use Rattle.protobuf_parse_syntax.specs.Trees.{option_statement_syntax}
use Rattle.protobuf_parse_source_info.specs.Parts.{at, option_block}
use Rattle.protobuf_parse_source_info.specs.InnerViews.{doing, ran}
use Rattle.protobuf_parse_source_info.proofs.walker.Walker.option_block.Given as goal

abbrev pub invariant-items : goal.invariant-items
invariant-items l =
    ran (option_block (at l.path l.number)
    (map option_statement_syntax (drop l.option-index l.options))) (doing l.self)
    ≡ ran (option_block (at l.path l.number) (map option_statement_syntax l.options))
    (doing l.initial.self)
