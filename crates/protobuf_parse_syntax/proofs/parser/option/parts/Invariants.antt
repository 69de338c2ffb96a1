use Rattle.std.proofs.Common.{◌≡◌, map}
use Rattle.protobuf_parse_grammar.specs.Combinators.{with_first}
use Rattle.protobuf_parse_syntax.specs.Trees.{option_part_syntax}
use Rattle.protobuf_parse_syntax.specs.Productions.{parts_up_to}
use Rattle.protobuf_parse_syntax.specs.Code.{left}
use Rattle.protobuf_parse_syntax.proofs.Parts.{behind}
use Rattle.protobuf_parse_syntax.proofs.parser.option.parts.Given as goal

abbrev pub invariant-others : goal.invariant-others
invariant-others l = with_first (option_part_syntax l.fn.first)
    ((parts_up_to 99).run (left l.fn.tokens))
    ≡ behind (map option_part_syntax l.parts.items) ((parts_up_to l.room).run (left l.tokens))

abbrev pub decreases-others : goal.decreases-others
decreases-others l = l.room
