use Rattle.std.proofs.Common.{◌≡◌, ◌+◌, ◌*◌, List, map}
use Rattle.protobuf_parse_grammar.specs.Relations.{somes}
use Rattle.protobuf_parse_grammar.specs.Readers.{size}
use Rattle.protobuf_parse_grammar.specs.Combinators.{run_many}
use Rattle.protobuf_parse_grammar.specs.Loops.{with_rest}
use Rattle.protobuf_parse_syntax.specs.Trees.{FieldStatementSyntax, field_statement_syntax}
use Rattle.protobuf_parse_syntax.specs.Nested as nest
use Rattle.protobuf_parse_syntax.specs.Code.{left}
use Rattle.protobuf_parse_syntax.proofs.parser.field.+field.Given as goal

abbrev pub decreases-field : goal.decreases-field
decreases-field l = 8 * l.levels

abbrev pub decreases-field_item : goal.decreases-field_item
decreases-field_item l = 8 * l.levels + 1

abbrev pub decreases-field_statements : goal.decreases-field_statements
decreases-field_statements l = 8 * l.levels + 2

abbrev pub decreases-group_body : goal.decreases-group_body
decreases-group_body l = 8 * l.levels + 3

abbrev pub decreases-group : goal.decreases-group
decreases-group l = 8 * l.levels + 4

abbrev pub decreases-after_label : goal.decreases-after_label
decreases-after_label l = 8 * l.inner + 5

abbrev pub decreases-field_of : goal.decreases-field_of
decreases-field_of l = 8 * l.inner + 6

abbrev pub invariant-field_statements-items : goal.invariant-field_statements-items
invariant-field_statements-items l =
    (nest.field_items_of l.syntax (nest.fields l.syntax l.levels)).low.run (left l.fn.tokens)
    ≡ with_rest somes (λ (v : List FieldStatementSyntax). v)
    (map field_statement_syntax l.fields.items)
    (run_many (nest.field_item_of l.syntax (nest.fields l.syntax l.levels)).low (left l.tokens))

abbrev pub decreases-field_statements-items : goal.decreases-field_statements-items
decreases-field_statements-items l = size (left l.tokens)
