use Rattle.std.proofs.Common.{◌∙◌, sym}
use Rattle.protobuf_parse_check.proofs.Plainly.{nothing-there, trimmed-nothing}
use Rattle.protobuf_parse_check.proofs.cuts.trimmed.Goals as goal

pub returns-then-is_empty : goal.returns-then-is_empty
returns-then-is_empty c =
    trimmed-nothing _ c.args.tree (sym c.values-places.ensures
    ∙ nothing-there c.values-places.result.now (sym c.is_empty.ensures ∙ c.if-is_empty.true))
