use Rattle.std.proofs.Common.{◌≡◌, List, map, string_bytes}
use Rattle.protobuf_parse_grammar.specs.Readers.{size}
use Rattle.protobuf_parse_grammar.specs.Combinators.{run_many}
use Rattle.protobuf_parse_grammar.specs.Loops.{with_rest}
use Rattle.protobuf_parse_lexer.specs.Text.{Bytes}
use Rattle.protobuf_parse_syntax.specs.Productions as read
use Rattle.protobuf_parse_syntax.specs.Code.{left}
use Rattle.protobuf_parse_syntax.specs.Grammar.{IsReservedName}
use Rattle.protobuf_parse_syntax.proofs.Lists.{AreRead}
use Rattle.protobuf_parse_syntax.proofs.parser.enumeration.names.Given as goal

abbrev pub invariant-others : goal.invariant-others
invariant-others l = (read.names.run (left l.fn.tokens)
    ≡ with_rest (λ (v : List Bytes). v) (λ (v : List Bytes). v) (map string_bytes l.names.items)
    (run_many read.comma_name (left l.tokens)))
    × AreRead IsReservedName (left l.fn.tokens) (left l.tokens)

abbrev pub decreases-others : goal.decreases-others
decreases-others l = size (left l.tokens)
