use Rattle.std.proofs.Common.{map, take, flat_map}
use Rattle.std.specs.Prelude.{string_bytes}
use Rattle.protobuf_parse_descriptor_set.specs.Items.{text}
use Rattle.protobuf_parse_descriptor_set.specs.Writing.{Writes}
use Rattle.protobuf_parse_descriptor_set.proofs.records.put_texts.Given as goal

abbrev pub invariant-loop-text : goal.invariant-loop-text
invariant-loop-text l =
    Writes (flat_map (text l.number) (map string_bytes (take l.text-index l.texts)))
    l.fn.out.items l.out.items
