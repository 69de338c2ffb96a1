use Rattle.std.proofs.lemmas.Result.{on_ok_weaker}
use Rattle.protobuf_parse_changes.proofs.Lists.{told_three}
use Rattle.protobuf_parse_changes.proofs.options.php_changes.Goals as goal

pub returns : goal.returns
returns c =
    on_ok_weaker c.text_change-3.result
    (λ more. told_three _ _ _ _ _ _ _ c.in_ok-text_change.ensures c.in_ok-text_change-2.ensures more)
    c.text_change-3.ensures
