use Rattle.std.proofs.Common.{◌≡◌, List, map}
use Rattle.protobuf_parse_grammar.specs.Readers.{size}
use Rattle.protobuf_parse_grammar.specs.Combinators.{run_many}
use Rattle.protobuf_parse_grammar.specs.Loops.{with_rest}
use Rattle.protobuf_parse_syntax.specs.Trees.{OptionSyntax, option_syntax}
use Rattle.protobuf_parse_syntax.specs.Nested as nest
use Rattle.protobuf_parse_syntax.specs.Code.{left}
use Rattle.protobuf_parse_syntax.specs.Grammar.{IsAssignment}
use Rattle.protobuf_parse_syntax.proofs.Lists.{AreRead}
use Rattle.protobuf_parse_syntax.proofs.parser.option.assignments.Given as goal

abbrev pub invariant-others : goal.invariant-others
invariant-others l = ((nest.assignments l.levels).low.run (left l.fn.tokens)
    ≡ with_rest (λ (v : List OptionSyntax). v) (λ (v : List OptionSyntax). v)
    (map option_syntax l.options.items)
    (run_many (nest.comma_assignment l.levels).low (left l.tokens)))
    × AreRead (IsAssignment l.levels) (left l.fn.tokens) (left l.tokens)

abbrev pub decreases-others : goal.decreases-others
decreases-others l = size (left l.tokens)
