-- The imports so far leave files that they don't reach, for the imports behind them.
use Rattle.std.proofs.Common.{◌≡◌, drop, map}
use Rattle.protobuf_parse_syntax.specs.Dependencies.{imports}
use Rattle.protobuf_parse_syntax.specs.Trees.{statement_syntax}
use Rattle.protobuf_parse_run.specs.Loading.{reaches_number}
use Rattle.protobuf_parse_run.specs.Repeats.{completing_import}
use Rattle.protobuf_parse_run.proofs.repeats.completing_import.Given as goal

abbrev pub invariant-loop-statement : goal.invariant-loop-statement
invariant-loop-statement l =
    completing_import (reaches_number l.loaded.entries) l.files.items
    (imports (map statement_syntax (drop l.statement-index l.tree.statements.items)))
    ≡ completing_import (reaches_number l.loaded.entries) l.fn.files.items
    (imports (map statement_syntax l.tree.statements.items))
