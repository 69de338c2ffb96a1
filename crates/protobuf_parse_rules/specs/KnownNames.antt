-- No public clause rests on this file.
-- What the code lists as names.
use Rattle.std.specs.Prelude.{string_bytes}
use Rattle.protobuf_parse_rules.specs.Alike.{Spelled}
use Rattle.protobuf_parse_rules.specs.Names.{Named}
use Rattle.protobuf_parse_rules.specs.declared.alike.Spelled as spelled
use Rattle.protobuf_parse_rules.specs.declared.names.Named as named

abbrev pub named_view : named.Named → Named
named_view n = record { file = n.file.now; kind = n.kind; name = string_bytes n.name }

abbrev pub spelled_view : spelled.Spelled → Spelled
spelled_view s = record { key = string_bytes s.key; name = s.name.now; number = s.number }
