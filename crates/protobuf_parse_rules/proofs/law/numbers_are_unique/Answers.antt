use Rattle.std.proofs.Common.{sym, ◌∙◌}
use Rattle.protobuf_parse_rules.proofs.NoneInUse.{none_where_all, all_where_none}
use Rattle.protobuf_parse_rules.proofs.law.numbers_are_unique.Goals as goal

pub returns : goal.returns
returns c = (
  λ is. none_where_all c.args.violations.now (sym c.none_is_in_use.ensures ∙ is),
  λ none. c.none_is_in_use.ensures ∙ all_where_none c.args.violations.now none,
)
