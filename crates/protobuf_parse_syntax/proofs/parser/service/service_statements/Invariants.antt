use Rattle.std.proofs.Common.{◌≡◌, List, map}
use Rattle.protobuf_parse_grammar.specs.Relations.{somes}
use Rattle.protobuf_parse_grammar.specs.Readers.{size}
use Rattle.protobuf_parse_grammar.specs.Combinators.{run_many}
use Rattle.protobuf_parse_grammar.specs.Loops.{with_rest}
use Rattle.protobuf_parse_syntax.specs.Trees.{service_statement_syntax, ServiceStatementSyntax}
use Rattle.protobuf_parse_syntax.specs.Nested as nest
use Rattle.protobuf_parse_syntax.specs.Code.{left}
use Rattle.protobuf_parse_syntax.proofs.parser.service.service_statements.Given as goal

abbrev pub invariant-items : goal.invariant-items
invariant-items l = (nest.service_items l.syntax l.levels).low.run (left l.fn.tokens)
    ≡ with_rest somes (λ (v : List ServiceStatementSyntax). v)
    (map service_statement_syntax l.body.items)
    (run_many (nest.service_item l.syntax l.levels).low (left l.tokens))

abbrev pub decreases-items : goal.decreases-items
decreases-items l = size (left l.tokens)
