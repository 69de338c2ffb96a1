use Rattle.std.proofs.lemmas.Result.{on_ok_weaker}
use Rattle.protobuf_parse_rules.specs.Known.{known_message}
use Rattle.protobuf_parse_rules.proofs.Linking.{message_absent, message_added}
use Rattle.protobuf_parse_rules.proofs.links.add_message.Goals as goal

pub returns-in-Some : goal.returns-in-Some
returns-in-Some c = on_ok_weaker c.add_link.result
    (λ added all knows. message_added all c.args.links.now c.add_link.new.links c.args.from.now
    c.args.name.now (known_message c.in-Some.message.now) (c.in-Some.ensures all knows) added)
    c.add_link.ensures

pub returns-in-None : goal.returns-in-None
returns-in-None c = λ all knows. message_absent all c.args.links.now c.args.from.now
    c.args.name.now (c.in-None.ensures all knows)
