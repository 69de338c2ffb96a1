use Rattle.std.proofs.Common.{◌≡◌, ◌++◌, false, length, map}
use Rattle.protobuf_parse_syntax.specs.Trees.{statement_syntax}
use Rattle.protobuf_parse_text_rules.specs.Files.{packages_behind}
use Rattle.protobuf_parse_text_rules.specs.Views.{told}
use Rattle.protobuf_parse_text_rules.proofs.messages.check_packages.Given as goal

abbrev pub invariant-left : goal.invariant-left
invariant-left l =
    told l.found ++ packages_behind l.before (map statement_syntax l.left)
    ≡ told l.fn.found ++ packages_behind false (map statement_syntax l.statements)

abbrev pub decreases-left : goal.decreases-left
decreases-left l = length l.left
