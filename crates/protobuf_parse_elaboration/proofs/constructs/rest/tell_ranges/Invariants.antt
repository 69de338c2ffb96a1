use Rattle.std.proofs.Common.{◌≡◌, ◌++◌, map, take, flat_map}
use Rattle.protobuf_parse_syntax.specs.InnerViews.{message_statement_syntax}
use Rattle.protobuf_parse_model.specs.Faults.{found}
use Rattle.protobuf_parse_elaboration.specs.Messages.{range_faults}
use Rattle.protobuf_parse_elaboration.proofs.constructs.rest.tell_ranges.Given as goal

abbrev pub invariant-loop-statement : goal.invariant-loop-statement
invariant-loop-statement l =
    found l.faults ≡ found l.initial.faults ++ flat_map (range_faults l.name)
    (map message_statement_syntax (take l.statement-index l.body))
