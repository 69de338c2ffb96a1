use Rattle.std.proofs.Common.{◌≡◌, List, map}
use Rattle.protobuf_parse_grammar.specs.Relations.{somes}
use Rattle.protobuf_parse_grammar.specs.Readers.{size}
use Rattle.protobuf_parse_grammar.specs.Combinators.{run_many}
use Rattle.protobuf_parse_grammar.specs.Loops.{with_rest}
use Rattle.protobuf_parse_syntax.specs.Trees.{OptionStatementSyntax, option_statement_syntax}
use Rattle.protobuf_parse_syntax.specs.Nested as nest
use Rattle.protobuf_parse_syntax.specs.Code.{left}
use Rattle.protobuf_parse_syntax.proofs.parser.option.option_statements.Given as goal

abbrev pub invariant-items : goal.invariant-items
invariant-items l = (nest.option_items l.levels).low.run (left l.fn.tokens)
    ≡ with_rest somes (λ (v : List OptionStatementSyntax). v)
    (map option_statement_syntax l.options.items)
    (run_many (nest.option_item l.levels).low (left l.tokens))

abbrev pub decreases-items : goal.decreases-items
decreases-items l = size (left l.tokens)
