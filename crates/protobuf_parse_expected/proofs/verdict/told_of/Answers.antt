use Rattle.std.proofs.Common.{◌∙◌}
use Rattle.protobuf_parse_expected.proofs.Telling.{whole_there}
use Rattle.protobuf_parse_expected.proofs.verdict.told_of.Goals as goal

pub returns-in-Whole : goal.returns-in-Whole
returns-in-Whole c =
    let read = rw c.in-Whole.is at c.in_ok-read.ensures in
    whole_there _ c.deref.result.now (c.deref.ensures ∙ c.in_ok-text.ensures) read
