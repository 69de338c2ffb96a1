use Rattle.std.proofs.Common.{map, take}
use Rattle.protobuf_parse_syntax.specs.Trees.{statement_syntax}
use Rattle.protobuf_parse_check.specs.Judging.{FindsNumbers}
use Rattle.protobuf_parse_check.proofs.imports.imports_of.Given as goal

abbrev pub invariant-loop-statement : goal.invariant-loop-statement
invariant-loop-statement l = FindsNumbers l.loaded.entries
    (map statement_syntax (take l.statement-index l.tree.statements.items)) l.found
