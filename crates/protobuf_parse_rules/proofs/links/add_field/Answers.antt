use Rattle.std.proofs.lemmas.Result.{on_ok_weaker}
use Rattle.protobuf_parse_rules.proofs.Linking.{names_more}
use Rattle.protobuf_parse_rules.proofs.links.add_field.Goals as goal

pub returns : goal.returns
returns c = on_ok_weaker c.add_named-2.result
    (λ second all knows. names_more all _ _ _ _ _ _ (c.in_ok-add_named.ensures all knows)
    (second all knows))
    c.add_named-2.ensures
