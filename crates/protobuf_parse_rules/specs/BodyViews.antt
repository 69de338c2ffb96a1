-- No public clause rests on this file.
-- Where fields, extensions and enums stand, as the code finds it.
use Rattle.std.specs.Prelude.{string_bytes}
use Rattle.protobuf_parse_model.specs.Descriptors.{file_view}
use Rattle.protobuf_parse_model.specs.MessageParts.{message_parts}
use Rattle.protobuf_parse_rules.specs.Bodies.{Content, of_message, of_file, BodyParts}
use Rattle.protobuf_parse_rules.specs.declared.bodies.Body.{Body}
use Rattle.protobuf_parse_rules.specs.declared.bodies.Holds.{Holds}
use Rattle.protobuf_parse_rules.specs.declared.bodies.Holds.TheVariants as holds

-- what the Rust value says
abbrev pub content_view : Holds → Content
content_view (holds.Message m) = of_message (message_parts m.now)
content_view (holds.File f) = of_file (file_view f.now)

-- what the Rust value says
abbrev pub body_view : Body → BodyParts
body_view b = record {
  file = b.file.now;
  proto3 = b.proto3;
  scope = string_bytes b.scope;
  content = content_view b.holds;
}
