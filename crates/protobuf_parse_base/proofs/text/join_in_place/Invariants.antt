-- The bytes so far and the words that are left are the whole.
use Rattle.std.proofs.Common.{◌≡◌, ◌≤◌, ◌++◌, take, drop}
use Rattle.protobuf_parse_base.specs.Cases.{joined_words}
use Rattle.protobuf_parse_base.proofs.text.join_in_place.Given as goal

abbrev pub invariant-loop-i : goal.invariant-loop-i
invariant-loop-i l = record {
  within : l.kept ≤ l.i;
  whole : take l.kept l.bytes ++ joined_words l.raise_next (drop l.i l.bytes)
      ≡ joined_words l.fn.raise l.fn.bytes;
}
