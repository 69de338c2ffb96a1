-- No public clause rests on this file.
-- What is said of a construct, as the code has it.
use Rattle.std.specs.Prelude.{map, option_map, string_bytes}
use Rattle.protobuf_parse_proto_text.specs.Items as spec
use Rattle.protobuf_parse_proto_text.specs.declared.items.Said.{Said}

abbrev pub said_view : Said → spec.Said
said_view s = record {
  items = map string_bytes s.items.items;
  untold = option_map string_bytes s.untold;
}
