-- No underscore was met yet.
use Rattle.std.proofs.Common.{◌≡◌, ◌≤◌, ◌-◌, ◌++◌, false, length, take, drop}
use Rattle.protobuf_parse_base.specs.Cases.{joined_words, has_underscore}
use Rattle.protobuf_parse_base.proofs.text.before_underscore.Given as goal

abbrev pub invariant-first : goal.invariant-first
invariant-first l = record {
  within : l.kept ≤ length l.bytes;
  none : has_underscore (take l.kept l.bytes) ≡ false;
  whole : take l.kept l.bytes ++ joined_words false (drop l.kept l.bytes)
      ≡ joined_words false l.bytes;
}

abbrev pub decreases-first : goal.decreases-first
decreases-first l = length l.bytes - l.kept
