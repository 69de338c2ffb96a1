use Rattle.protobuf_parse_command.specs.Checked.{AreTextRulesTold}
use Rattle.protobuf_parse_command.proofs.names.told_names.Given as goal

abbrev pub invariant-loop-tree : goal.invariant-loop-tree
invariant-loop-tree l = AreTextRulesTold l.arguments.rules l.told.items
