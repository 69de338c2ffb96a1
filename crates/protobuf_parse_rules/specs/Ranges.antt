-- Ranges of numbers that a message keeps for extensions, or lets no field have, and of numbers that
-- no value of an enum has. Protocol Buffers Language Guide (proto2), "Reserved Fields",
-- "Extensions" (https://protobuf.dev). A range of a message ends before its `end`, one of an enum
-- at it.
use Rattle.std.specs.Prelude.{ℤ, pos, Bool, not, ◌&&◌, Option, int_lt, nat_lt, bytes_eq, List, []}
use Rattle.std.specs.Prelude.{◌∷◌, ◌++◌, map, if◌then◌else◌}
use Rattle.std.specs.List.{count_by, list_any}
use Rattle.std.specs.Ordering.{int_eq}
use Rattle.protobuf_parse_model.specs.Descriptors.{Text, Range}
use Rattle.protobuf_parse_rules.specs.Bodies.{Content, extension_ranges, reserved_names}
use Rattle.protobuf_parse_rules.specs.Bodies.{reserved_ranges}
use Rattle.protobuf_parse_rules.specs.MessageSets.{is_message_set}
use Rattle.protobuf_parse_rules.specs.Rules.{Breach, Broken, Site, breaches_at, broken_if}
use Rattle.protobuf_parse_rules.specs.declared.rule.Rule.TheVariants as rule

-- whether the number lies in the range of a message
abbrev pub in_range : ℤ → Range → Bool
in_range n r = not (int_lt n r.start) && int_lt n r.end

-- whether the name is one of these
abbrev pub is_among : Text → List Text → Bool
is_among name names = list_any (λ (x : Text). bytes_eq x name) names

-- whether the number lies in one of these
abbrev pub in_ranges : ℤ → List Range → Bool
in_ranges n ranges = list_any (in_range n) ranges

-- C29 for a number that the message reserves
abbrev pub reserved_number : ℤ → Content → Option Broken
reserved_number n content =
    broken_if (in_ranges n (reserved_ranges content)) (rule.NumberReserved n)

-- C30 for a name that the message reserves
abbrev pub reserved_name : Text → Content → Option Broken
reserved_name name content = broken_if (is_among name (reserved_names content)) rule.NameReserved

-- C31 for a number that it keeps for extensions
abbrev pub kept_number : ℤ → Content → Option Broken
kept_number n content =
    broken_if (in_ranges n (extension_ranges content)) (rule.NumberKeptForExtensions n)

-- C26 for a range that begins below 1
abbrev pub not_positive : (start : ℤ) → Option Broken
not_positive start = broken_if (int_lt start (pos 1)) (rule.RangeNotPositive start)

-- C27 for a range of a message in which no number lies
abbrev pub without_numbers : (start end : ℤ) → Option Broken
without_numbers start end = broken_if (not (int_lt start end)) (rule.RangeEmpty start)

-- C28 for a range of extensions that ends too high, where the message is no message set
abbrev pub too_large : (message_set : Bool) → (end : ℤ) → Option Broken
too_large message_set end =
    broken_if (not message_set && int_lt (pos 536870912) end) (rule.ExtensionRangeTooLarge end)

-- a range as a message set has it: one to `max`, whose `end` is 536870912 in a descriptor, goes on
-- to the greatest number that there is
abbrev pub range_of_set : Range → Range
range_of_set r = if int_eq r.end (pos 536870912)
    then record { start = r.start; end = pos 2147483647 } else r

-- the ranges in which the numbers of a message's extensions lie
abbrev pub ranges_for_extensions : Content → List Range
ranges_for_extensions content =
    if is_message_set content then map range_of_set (extension_ranges content)
    else extension_ranges content

-- all ranges of a message
abbrev pub ranges_of : Content → List Range
ranges_of content = reserved_ranges content ++ extension_ranges content

-- whether two ranges of a message overlap, by the test of protoc's DescriptorBuilder: where no
-- number lies in one, the other has its `start` and the number before its `end`
abbrev pub overlap : Range → Range → Bool
overlap r s = int_lt r.start s.end && int_lt s.start r.end

-- whether another range overlaps the first one and begins no later
abbrev pub overlaps_first : Range → Range → Bool
overlaps_first r s = not (int_lt r.start s.start) && overlap r s

-- whether more of the ranges than itself overlap it and begin no later
abbrev pub is_overlapped : (ranges : List Range) → Range → Bool
is_overlapped ranges r =
    nat_lt (count_by (overlaps_first r) (r ∷ [])) (count_by (overlaps_first r) ranges)

-- C39 for such a range
abbrev pub overlapping : (ranges : List Range) → Range → Option Broken
overlapping ranges r = broken_if (is_overlapped ranges r) (rule.RangesOverlap r.start)

-- what is wrong with a range of extensions of a message
abbrev pub extension_range : Site → (message_set : Bool) → (ranges : List Range) → Range
    → List Breach
extension_range site message_set ranges r = breaches_at site
    (not_positive r.start
    ∷ without_numbers r.start r.end
    ∷ too_large message_set r.end
    ∷ overlapping ranges r
    ∷ [])

-- what is wrong with a reserved range of a message
abbrev pub reserved_range : Site → (ranges : List Range) → Range → List Breach
reserved_range site ranges r =
    breaches_at site (not_positive r.start ∷ overlapping ranges r ∷ [])
