use Rattle.std.proofs.Common.{◌≡◌, List, map}
use Rattle.protobuf_parse_grammar.specs.Relations.{somes}
use Rattle.protobuf_parse_grammar.specs.Readers.{size}
use Rattle.protobuf_parse_grammar.specs.Combinators.{run_many}
use Rattle.protobuf_parse_grammar.specs.Loops.{with_rest}
use Rattle.protobuf_parse_syntax.specs.Trees.{enum_statement_syntax, EnumStatementSyntax}
use Rattle.protobuf_parse_syntax.specs.Nested as nest
use Rattle.protobuf_parse_syntax.specs.Code.{left}
use Rattle.protobuf_parse_syntax.proofs.parser.enumeration.enum_statements.Given as goal

abbrev pub invariant-items : goal.invariant-items
invariant-items l = (nest.enum_items l.levels).low.run (left l.fn.tokens)
    ≡ with_rest somes (λ (v : List EnumStatementSyntax). v) (map enum_statement_syntax l.body.items)
    (run_many (nest.enum_item l.levels).low (left l.tokens))

abbrev pub decreases-items : goal.decreases-items
decreases-items l = size (left l.tokens)
