use Rattle.std.proofs.lemmas.Result.{on_ok_weaker}
use Rattle.protobuf_parse_changes.proofs.Lists.{told_five}
use Rattle.protobuf_parse_changes.proofs.options.language_changes.Goals as goal

pub returns : goal.returns
returns c =
    on_ok_weaker c.text_change-5.result
    (λ more. told_five _ _ _ _ _ _ _ _ _ _ _ c.in_ok-text_change.ensures c.in_ok-text_change-2.ensures c.in_ok-text_change-3.ensures c.in_ok-text_change-4.ensures more)
    c.text_change-5.ensures
