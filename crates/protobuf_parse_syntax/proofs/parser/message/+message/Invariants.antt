use Rattle.std.proofs.Common.{◌≡◌, ◌+◌, ◌*◌, List, map}
use Rattle.protobuf_parse_grammar.specs.Relations.{somes}
use Rattle.protobuf_parse_grammar.specs.Readers.{size}
use Rattle.protobuf_parse_grammar.specs.Combinators.{run_many}
use Rattle.protobuf_parse_grammar.specs.Loops.{with_rest}
use Rattle.protobuf_parse_syntax.specs.Trees.{MessageStatementSyntax}
use Rattle.protobuf_parse_syntax.specs.InnerViews.{message_statement_syntax}
use Rattle.protobuf_parse_syntax.specs.Nested as nest
use Rattle.protobuf_parse_syntax.specs.Code.{left}
use Rattle.protobuf_parse_syntax.proofs.parser.message.+message.Given as goal

abbrev pub decreases-message : goal.decreases-message
decreases-message l = 7 * l.levels

abbrev pub decreases-other_statement : goal.decreases-other_statement
decreases-other_statement l = 7 * l.levels + 1

abbrev pub decreases-put_other_statement : goal.decreases-put_other_statement
decreases-put_other_statement l = 7 * l.levels + 2

abbrev pub decreases-message_statement : goal.decreases-message_statement
decreases-message_statement l = 7 * l.levels + 3

abbrev pub decreases-message_item : goal.decreases-message_item
decreases-message_item l = 7 * l.levels + 4

abbrev pub decreases-message_statements : goal.decreases-message_statements
decreases-message_statements l = 7 * l.levels + 5

abbrev pub decreases-message_of : goal.decreases-message_of
decreases-message_of l = 7 * l.levels + 6

abbrev pub invariant-message_statements-items : goal.invariant-message_statements-items
invariant-message_statements-items l = (nest.message_items l.syntax l.levels).low.run
    (left l.fn.tokens) ≡ with_rest somes (λ (v : List MessageStatementSyntax). v)
    (map message_statement_syntax l.body.items)
    (run_many (nest.message_item l.syntax l.levels).low (left l.tokens))

abbrev pub decreases-message_statements-items : goal.decreases-message_statements-items
decreases-message_statements-items l = size (left l.tokens)
