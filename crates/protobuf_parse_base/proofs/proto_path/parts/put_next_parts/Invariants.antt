use Rattle.std.proofs.Common.{◌≡◌, ◌++◌, take, flat_map}
use Rattle.std.specs.Prelude.{string_bytes}
use Rattle.protobuf_parse_base.specs.PathViews.{part_texts}
use Rattle.protobuf_parse_base.specs.PathParts.{part_behind}
use Rattle.protobuf_parse_base.proofs.proto_path.parts.put_next_parts.Given as goal

abbrev pub invariant-loop-part : goal.invariant-loop-part
invariant-loop-part l =
    string_bytes l.text ≡ string_bytes l.fn.text
    ++ flat_map part_behind (part_texts (take l.part-index l.parts))
