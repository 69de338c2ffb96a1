use Rattle.std.proofs.Common.{◌≡◌, List, map, ◌+◌, ◌*◌}
use Rattle.protobuf_parse_grammar.specs.Pairs.{both}
use Rattle.protobuf_parse_grammar.specs.Readers.{size}
use Rattle.protobuf_parse_grammar.specs.Combinators.{run_many}
use Rattle.protobuf_parse_grammar.specs.Loops.{with_rest}
use Rattle.protobuf_parse_syntax.specs.Trees.{ConstantFieldSyntax, constant_syntax}
use Rattle.protobuf_parse_syntax.specs.InnerViews.{constant_field_syntax}
use Rattle.protobuf_parse_syntax.specs.Grammar.{IsConstant, ConstantFieldOf}
use Rattle.protobuf_parse_syntax.specs.Nested as nest
use Rattle.protobuf_parse_syntax.specs.Code.{left}
use Rattle.protobuf_parse_syntax.proofs.Loops.{listed}
use Rattle.protobuf_parse_syntax.proofs.Lists.{AreRead, ManyRead}
use Rattle.protobuf_parse_syntax.proofs.parser.constant.+constant.Given as goal

abbrev pub decreases-constant : goal.decreases-constant
decreases-constant l = 6 * l.levels

abbrev pub decreases-constant_of : goal.decreases-constant_of
decreases-constant_of l = 6 * l.levels + 5

abbrev pub decreases-list : goal.decreases-list
decreases-list l = 6 * l.levels + 4

abbrev pub decreases-message_constant : goal.decreases-message_constant
decreases-message_constant l = 6 * l.levels + 4

abbrev pub decreases-constants : goal.decreases-constants
decreases-constants l = 6 * l.levels + 3

abbrev pub decreases-constant_fields : goal.decreases-constant_fields
decreases-constant_fields l = 6 * l.levels + 3

abbrev pub decreases-constant_field : goal.decreases-constant_field
decreases-constant_field l = 6 * l.levels + 2

abbrev pub decreases-field_value : goal.decreases-field_value
decreases-field_value l = 6 * l.levels + 1

abbrev pub invariant-constants-others : goal.invariant-constants-others
invariant-constants-others l = ((nest.constants_of (both (nest.constant l.levels))).low.run
    (left l.fn.tokens) ≡ listed (nest.constant l.levels) (map constant_syntax l.items.items)
    (left l.tokens)) × AreRead (IsConstant l.levels) (left l.fn.tokens) (left l.tokens)

abbrev pub decreases-constants-others : goal.decreases-constants-others
decreases-constants-others l = size (left l.tokens)

abbrev pub invariant-constant_fields-fields : goal.invariant-constant_fields-fields
invariant-constant_fields-fields l =
    ((nest.constant_fields_of (both (nest.constant l.levels))).low.run (left l.fn.tokens)
    ≡ with_rest (λ (v : List ConstantFieldSyntax). v) (λ (v : List ConstantFieldSyntax). v)
    (map constant_field_syntax l.fields.items)
    (run_many (nest.constant_field_of (both (nest.constant l.levels))).low (left l.tokens)))
    × ManyRead (ConstantFieldOf (IsConstant l.levels)) (left l.fn.tokens) (left l.tokens)

abbrev pub decreases-constant_fields-fields : goal.decreases-constant_fields-fields
decreases-constant_fields-fields l = size (left l.tokens)
