use Rattle.std.proofs.Common.{sym, ◌∙◌}
use Rattle.protobuf_parse_syntax.specs.Code.{left}
use Rattle.protobuf_parse_syntax.proofs.Words.{dot_unlabelled}
use Rattle.protobuf_parse_syntax.proofs.parser.words.field_fault.Goals as goal

pub returns-in-Proto2-syntax : goal.returns-in-Proto2-syntax
returns-in-Proto2-syntax c = (
  c.in-Proto2-syntax.is,
  dot_unlabelled (left c.args.tokens.now) (sym c.sees_symbol.ensures ∙ c.if-sees_symbol.true),
)
