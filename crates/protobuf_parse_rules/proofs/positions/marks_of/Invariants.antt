use Rattle.std.proofs.Common.{take}
use Rattle.protobuf_parse_rules.specs.Marks.{Marks}
use Rattle.protobuf_parse_rules.proofs.positions.marks_of.Given as goal

abbrev pub invariant-numbers : goal.invariant-numbers
invariant-numbers l = Marks (take l.number-index l.numbers) l.count l.marks.items
