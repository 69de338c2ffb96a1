-- Numbers as the defaults of fields write them. Protocol Buffers Language Specification (proto2),
-- "Integer Literals", "Floating-point Literals", "Constant" (https://protobuf.dev).
use Rattle.std.specs.Prelude.{◌==◌, Bool, ◌&&◌, ◌||◌, bytes_eq, codes, drop, length}
use Rattle.std.specs.Prelude.{if◌then◌else◌, slice_index, nat_lt}
use Rattle.std.specs.List.{list_all}
use Rattle.std.specs.Char.{is_ascii_digit}
use Rattle.std.specs.Float.Parse.{is_float_text}
use Rattle.std.specs.Str.Parse.{starts_with_minus}
use Rattle.protobuf_parse_model.specs.Descriptors.{Text}

-- without the minus sign at its head, if one stands there
abbrev pub without_minus : Text → Text
without_minus text = if starts_with_minus text then drop 1 text else text

-- digits, one or more
abbrev pub is_digits : Text → Bool
is_digits text = nat_lt 0 (length text) && list_all is_ascii_digit text

-- a digit or a point stands at its head
abbrev pub begins_as_number : Text → Bool
begins_as_number text = is_ascii_digit (slice_index text 0) || slice_index text 0 == 46

-- `inf`, `nan`, or a number with a point, an exponent, or none of these
abbrev pub is_unsigned_number : Text → Bool
is_unsigned_number text = bytes_eq text (codes "inf")
    || (bytes_eq text (codes "nan") || (begins_as_number text && is_float_text text))
