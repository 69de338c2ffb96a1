use Rattle.std.proofs.Common.{◌≤◌, length}
use Rattle.std.specs.Io.KnownBytes.{Consumes}
use Rattle.protobuf_parse_files.proofs.bounded.read_up_to.Given as goal

-- What was read stands in front of what is left.
abbrev pub invariant-loop : goal.invariant-loop
invariant-loop g l = record {
  within : length l.content.items ≤ l.most;
  known : Consumes (g.R.Read.remaining l.fn.reader) (g.R.Read.remaining l.reader) l.content.items;
}
