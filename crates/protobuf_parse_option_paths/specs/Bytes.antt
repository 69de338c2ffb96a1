-- Locations as the bytes of a `SourceCodeInfo`: a line a field of descriptor.proto, with its number
-- there. Protocol Buffers Encoding, "Message Structure", "Length-Delimited Records" and "Packed
-- Repeated Fields" (https://protobuf.dev/programming-guides/encoding/).
use Rattle.std.specs.Prelude.{ℕ, ◌+◌, ◌*◌, ◌==◌, List, [], ◌∷◌, ◌++◌, flat_map, option_to_list}
use Rattle.std.specs.Prelude.{if◌then◌else◌}
use Rattle.protobuf_parse_wire.specs.Encoded.{varint_of, delimited}
use Rattle.protobuf_parse_source_info.specs.Info.{LocationSyntax}
use Rattle.protobuf_parse_source_info.specs.declared.info.Span.{Span}

-- a text, bytes or a message, under the number of the field
abbrev pub field : ℕ → List ℕ → List ℕ
field number inside = varint_of (number * 8 + 2) ++ delimited inside

-- the same, unless there are no bytes
abbrev pub field_if_any : ℕ → List ℕ → List ℕ
field_if_any number [] = []
field_if_any number (b ∷ bs) = field number (b ∷ bs)

-- numbers, packed: each is a byte or more, and no numbers are not written
abbrev pub packed : ℕ → List ℕ → List ℕ
packed number vs = field_if_any number (flat_map varint_of vs)

-- a span has the line of its end only if that is another one
abbrev pub span_numbers : Span → List ℕ
span_numbers s =
    s.start.line ∷ s.start.column
    ∷ (if s.start.line == s.end.line then [] else s.end.line ∷ []) ++ s.end.column ∷ []

-- SourceCodeInfo.Location
abbrev pub location_bytes : LocationSyntax → List ℕ
location_bytes l =
    (((packed 1 l.path
    ++ packed 2 (span_numbers l.span))
    ++ flat_map (field 3) (option_to_list l.leading))
    ++ flat_map (field 4) (option_to_list l.trailing))
    ++ flat_map (field 6) l.detached

-- SourceCodeInfo
abbrev pub info_bytes : List LocationSyntax → List ℕ
info_bytes ls = flat_map (λ (l : LocationSyntax). field 1 (location_bytes l)) ls
