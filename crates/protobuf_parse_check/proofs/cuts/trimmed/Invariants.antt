use Rattle.std.proofs.Common.{map}
use Rattle.protobuf_parse_syntax.specs.Trees.{statement_syntax}
use Rattle.protobuf_parse_check.specs.Judging.{IsTrimmed}
use Rattle.protobuf_parse_check.proofs.cuts.trimmed.Given as goal

abbrev pub invariant-loop-statement : goal.invariant-loop-statement
invariant-loop-statement l = IsTrimmed l.places
    (record { syntax = l.fn.tree.syntax; statements = map statement_syntax l.yielded })
    l.trimmed
