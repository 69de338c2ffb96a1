use Rattle.std.proofs.Common.{◌≡◌, List, map}
use Rattle.protobuf_parse_grammar.specs.Readers.{size}
use Rattle.protobuf_parse_grammar.specs.Combinators.{run_many}
use Rattle.protobuf_parse_grammar.specs.Loops.{with_rest}
use Rattle.protobuf_parse_syntax.specs.Trees.{RangeSyntax, range_syntax}
use Rattle.protobuf_parse_syntax.specs.Productions as read
use Rattle.protobuf_parse_syntax.specs.Code.{left}
use Rattle.protobuf_parse_syntax.proofs.parser.enumeration.ranges.Given as goal

abbrev pub invariant-others : goal.invariant-others
invariant-others l = read.ranges.run (left l.fn.tokens)
    ≡ with_rest (λ (v : List RangeSyntax). v) (λ (v : List RangeSyntax). v)
    (map range_syntax l.ranges.items) (run_many read.comma_range (left l.tokens))

abbrev pub decreases-others : goal.decreases-others
decreases-others l = size (left l.tokens)
