use Rattle.std.proofs.Common.{◌≡◌, map, take}
use Rattle.std.specs.Prelude.{string_bytes}
use Rattle.protobuf_parse.specs.Includes.{part_views}
use Rattle.protobuf_parse.proofs.parser.builder.text_slices.Given as goal

abbrev pub invariant-loop-text : goal.invariant-loop-text
invariant-loop-text l = part_views l.slices.items ≡ map string_bytes (take l.text-index l.texts)
