use Rattle.std.proofs.Common.{sym, ◌∙◌}
use Rattle.protobuf_parse_syntax.specs.Code.{left}
use Rattle.protobuf_parse_syntax.proofs.Strings.{says_itself}
use Rattle.protobuf_parse_syntax.proofs.parser.name.text_as_written.Goals as goal

pub returns-then-stands_for_itself : goal.returns-then-stands_for_itself
returns-then-stands_for_itself c =
    says_itself (left c.args.tokens.now) (left c.piece.new.self) c.in-Ok.piece.now c.in-Ok.ensures
    (sym c.sees_str.ensures ∙ c.if-not-sees_str.true)
    (c.stands_for_itself.ensures.stands c.if-stands_for_itself.true)
