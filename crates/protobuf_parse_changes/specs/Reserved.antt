-- Numbers and names that messages and enums reserve. Protocol Buffers Language Guide, "Reserved Field
-- Numbers" and "Reserved Values" (https://protobuf.dev).
use Rattle.std.specs.Prelude.{ℤ, Bool, not, ◌&&◌, List, int_lt, bytes_eq}
use Rattle.std.specs.List.{list_any}
use Rattle.protobuf_parse_model.specs.Descriptors.{Text, Range}

-- whether the number is in the range of a message, whose end isn't in it
abbrev pub in_range : ℤ → Range → Bool
in_range n r = not (int_lt n r.start) && int_lt n r.end

-- whether the number is in one of them
abbrev pub in_ranges : ℤ → List Range → Bool
in_ranges n ranges = list_any (in_range n) ranges

-- whether the number is in the range of an enum, whose end is in it
abbrev pub in_enum_range : ℤ → Range → Bool
in_enum_range n r = not (int_lt n r.start) && not (int_lt r.end n)

-- whether the number is in one of them
abbrev pub in_enum_ranges : ℤ → List Range → Bool
in_enum_ranges n ranges = list_any (in_enum_range n) ranges

-- whether the name is one of these
abbrev pub is_among : Text → List Text → Bool
is_among name names = list_any (bytes_eq name) names
