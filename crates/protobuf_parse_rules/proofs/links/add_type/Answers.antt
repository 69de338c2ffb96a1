use Rattle.std.proofs.lemmas.Result.{on_ok_weaker}
use Rattle.protobuf_parse_rules.proofs.Linking.{name_added}
use Rattle.protobuf_parse_rules.proofs.links.add_type.Goals as goal

pub returns : goal.returns
returns c = on_ok_weaker c.add_enum.result
    (λ second all knows. name_added all c.args.links.now c.add_message.new.links
    c.add_enum.new.links c.args.from.now c.args.name.now (c.in_ok-add_message.ensures all knows)
    (second all knows))
    c.add_enum.ensures
