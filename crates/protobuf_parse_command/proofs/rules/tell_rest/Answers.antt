use Rattle.std.proofs.Common.{List, subst, sym}
use Rattle.protobuf_parse_diagnostics.specs.Broken.{told_at_level}
use Rattle.protobuf_parse_diagnostics.specs.declared.diagnostic.Diagnostic.{Diagnostic}
use Rattle.protobuf_parse_command.specs.Checked.{AreTextRulesTold}
use Rattle.protobuf_parse_command.proofs.Texts.{more_texts, of_text}
use Rattle.protobuf_parse_command.proofs.rules.tell_rest.Goals as goal

pub returns : goal.returns
returns c = λ before.
    let level = c.args.asked.arguments.now.rules in
    let texts : List Diagnostic = c.in_ok-text_rule_diagnostics.field-0.items in
    subst (λ (ds : List Diagnostic). AreTextRulesTold level ds) (sym c.in_ok-append.ensures.items)
    (more_texts level c.args.told.now.items texts before
    (of_text level _ (told_at_level level _) texts
    c.in_ok-text_rule_diagnostics.ensures))
