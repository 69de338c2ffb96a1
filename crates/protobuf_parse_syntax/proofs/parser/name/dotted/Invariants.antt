use Rattle.std.proofs.Common.{◌≡◌, ℕ, List, string_bytes}
use Rattle.protobuf_parse_grammar.specs.Readers.{size}
use Rattle.protobuf_parse_grammar.specs.Combinators.{run_many}
use Rattle.protobuf_parse_grammar.specs.Loops.{with_rest}
use Rattle.protobuf_parse_syntax.specs.Grammar.{dots}
use Rattle.protobuf_parse_syntax.specs.Productions as read
use Rattle.protobuf_parse_syntax.specs.Code.{left}
use Rattle.protobuf_parse_syntax.proofs.parser.name.dotted.Given as goal

abbrev pub invariant-parts : goal.invariant-parts
invariant-parts l = read.dotted.run (left l.fn.tokens)
    ≡ with_rest dots (λ (v : List ℕ). v) (string_bytes l.name)
    (run_many read.dot_ident (left l.tokens))

abbrev pub decreases-parts : goal.decreases-parts
decreases-parts l = size (left l.tokens)
