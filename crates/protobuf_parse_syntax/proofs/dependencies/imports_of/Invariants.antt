-- What is found so far is what the statements so far import.
use Rattle.std.proofs.Common.{◌≡◌, map, take}
use Rattle.protobuf_parse_syntax.specs.Dependencies.{dependencies_of, dependencies_view}
use Rattle.protobuf_parse_syntax.specs.Trees.{statement_syntax}
use Rattle.protobuf_parse_syntax.proofs.dependencies.imports_of.Given as goal

abbrev pub invariant-loop-statement : goal.invariant-loop-statement
invariant-loop-statement l = dependencies_view l.found
    ≡ dependencies_of (map statement_syntax (take l.statement-index l.statements))
