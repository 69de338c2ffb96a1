use Rattle.protobuf_parse_command.specs.Checked.{AreTextRulesTold}
use Rattle.protobuf_parse_command.proofs.rules.told_texts.Given as goal

abbrev pub invariant-loop-report : goal.invariant-loop-report
invariant-loop-report l = AreTextRulesTold l.arguments.rules l.told.items

abbrev pub invariant-loop-file : goal.invariant-loop-file
invariant-loop-file l = AreTextRulesTold l.arguments.rules l.told.items
