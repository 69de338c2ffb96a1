use Rattle.std.proofs.Common.{None, lit<, rules, subst}
use Rattle.std.proofs.lemmas.Str.Pattern.{strip_prefix_char}
use Rattle.protobuf_parse_model.specs.Descriptors.{Text}
use Rattle.protobuf_parse_proto_text.specs.Puts.{Puts}
use Rattle.protobuf_parse_proto_text.proofs.Parentheses.{no_paren}
use Rattle.protobuf_parse_proto_text.proofs.items.put_option_name.Goals as goal

pub returns-in-None : goal.returns-in-None
returns-in-None c =
    let puts : Text → Type 0 =
    λ words. Puts c.push_str-in-None.result c.args.text.now c.push_str-in-None.new.self words in
    subst puts
    (no_paren c.args.name.now
    (strip_prefix_char 40 c.args.name.now None c.in-None.ensures.cases (lit< tt)))
    (search rules)
