-- Spans, payloads and records, without where they lie in memory.
use Rattle.std.specs.Prelude.{ℕ, List}
use Rattle.protobuf_parse_records.specs.declared.span.Span.{Span}
use Rattle.protobuf_parse_records.specs.declared.wire.Payload.{Payload}
use Rattle.protobuf_parse_records.specs.declared.wire.Payload.TheVariants as payload
use Rattle.protobuf_parse_records.specs.declared.wire.Record.{Record}

-- bytes, and the offset of the first one
pub record Extent : Type 0 where
  pub start : ℕ
  pub bytes : List ℕ

-- what stands behind a tag, by its wire type
pub data Content : Type 0 where
  varint : ℕ → Content
  fixed64 : ℕ → Content
  fixed32 : ℕ → Content
  delimited : Extent → Content
  group : Extent → Content

-- a record: a field's number, all bytes from the tag on, and what stands behind the tag
pub record WireRecord : Type 0 where
  pub number : ℕ
  pub whole : Extent
  pub content : Content

-- ---- the Rust values as these

-- a span
abbrev pub span_view : Span → Extent
span_view s = record { start = s.start; bytes = s.bytes.now }

-- a payload
abbrev pub payload_view : Payload → Content
payload_view (payload.Varint n) = varint n
payload_view (payload.Fixed64 n) = fixed64 n
payload_view (payload.Fixed32 n) = fixed32 n
payload_view (payload.Delimited s) = delimited (span_view s)
payload_view (payload.Group s) = group (span_view s)

-- a record
abbrev pub record_view : Record → WireRecord
record_view r = record {
  number = r.number;
  whole = span_view r.whole;
  content = payload_view r.payload;
}
