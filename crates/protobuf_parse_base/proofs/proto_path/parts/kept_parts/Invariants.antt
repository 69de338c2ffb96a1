-- What is kept of the parts so far.
use Rattle.std.proofs.Common.{◌≡◌}
use Rattle.protobuf_parse_base.specs.Paths.{kept_of}
use Rattle.protobuf_parse_base.specs.PathViews.{part_texts}
use Rattle.protobuf_parse_base.proofs.proto_path.parts.kept_parts.Given as goal

abbrev pub invariant-loop-part : goal.invariant-loop-part
invariant-loop-part l = part_texts l.parts.items ≡ kept_of (part_texts l.yielded)
