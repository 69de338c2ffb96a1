-- What is left of the front is compared with what is left of the parts.
use Rattle.std.proofs.Common.{◌≡◌, ◌≤◌, length, drop}
use Rattle.protobuf_parse.specs.Includes.{part_views, parts_after}
use Rattle.protobuf_parse.proofs.parser.includes.after_front.Given as goal

abbrev pub invariant-loop-i : goal.invariant-loop-i
invariant-loop-i l = record {
  same : parts_after (part_views (drop l.i l.front)) (part_views (drop l.i l.parts))
      ≡ parts_after (part_views l.front) (part_views l.parts);
  within : l.i ≤ length l.parts;
}
