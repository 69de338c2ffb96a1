use Rattle.std.proofs.lemmas.Result.{on_ok_weaker}
use Rattle.protobuf_parse_rules.specs.Known.{known_enum}
use Rattle.protobuf_parse_rules.proofs.Linking.{enum_absent, enum_added}
use Rattle.protobuf_parse_rules.proofs.links.add_enum.Goals as goal

pub returns-in-Some : goal.returns-in-Some
returns-in-Some c = on_ok_weaker c.add_link.result
    (λ added all knows. enum_added all c.args.links.now c.add_link.new.links c.args.from.now
    c.args.name.now (known_enum c.in-Some.each.now) (c.in-Some.ensures all knows) added)
    c.add_link.ensures

pub returns-in-None : goal.returns-in-None
returns-in-None c = λ all knows. enum_absent all c.args.links.now c.args.from.now
    c.args.name.now (c.in-None.ensures all knows)
