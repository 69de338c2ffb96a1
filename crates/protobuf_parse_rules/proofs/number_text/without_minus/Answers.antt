use Rattle.std.proofs.Common.{arith, None}
use Rattle.std.proofs.lemmas.Str.Pattern.{strip_prefix_char}
use Rattle.protobuf_parse_rules.proofs.NumberReading.{nothing_before}
use Rattle.protobuf_parse_rules.proofs.number_text.without_minus.Goals as goal

pub returns-in-None : goal.returns-in-None
returns-in-None c = nothing_before c.args.text.now
    (strip_prefix_char 45 c.args.text.now None c.in-None.ensures.cases (omega arith))
