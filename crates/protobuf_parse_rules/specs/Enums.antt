-- The values of an enum. In proto3 the first is 0 (Protocol Buffers Language Guide (proto3),
-- "Enumerations", https://protobuf.dev); and unless the option `allow_alias` is set, their numbers
-- are distinct.
use Rattle.std.specs.Prelude.{ℤ, pos, Bool, true, false, not, ◌&&◌, if◌then◌else◌, Option, Some}
use Rattle.std.specs.Prelude.{None, List, [], ◌∷◌, int_lt, nat_lt, flat_map}
use Rattle.std.specs.List.{count_by, list_any}
use Rattle.std.specs.Prelude.{◌++◌, map, unwrap_or, option_and_then}
use Rattle.std.specs.Ordering.{int_eq}
use Rattle.protobuf_parse_model.specs.Descriptors.{Text, EnumDescriptor, EnumValueDescriptor, Range}
use Rattle.protobuf_parse_model.specs.Options.{EnumOptionValues}
use Rattle.protobuf_parse_wire.specs.Declarations.{name_within}
use Rattle.protobuf_parse_rules.specs.Alike.{values_alike}
use Rattle.protobuf_parse_rules.specs.Bodies.{BodyParts}
use Rattle.protobuf_parse_rules.specs.Claims.{Claim, Rules, conflicts}
use Rattle.protobuf_parse_rules.specs.Ranges.{is_among}
use Rattle.protobuf_parse_rules.specs.Repeats.{repeats}
use Rattle.protobuf_parse_rules.specs.Rules.{Breach, Broken, Site, breaches_at, broken, broken_if}
use Rattle.protobuf_parse_rules.specs.declared.rule.Rule.TheVariants as rule

-- C8 for a first value of another number than 0
abbrev pub not_zero : List EnumValueDescriptor → Option Broken
not_zero [] = None
not_zero (v ∷ vs) =
    if int_eq v.number (pos 0) then None else Some (broken (rule.FirstValueNotZero v.number))

-- the same, in proto3 alone
abbrev pub first_not_zero : (proto3 : Bool) → List EnumValueDescriptor → Option Broken
first_not_zero proto3 values = if proto3 then not_zero values else None

-- a value's full name is one of the scope around the enum
abbrev pub value_claim : (file scope : Text) → EnumValueDescriptor → Claim
value_claim file scope v = record {
  thing = record { number = v.number; name = []; scope = [] };
  who = record { file = file; name = name_within scope v.name; number = v.number; kind = None };
}

-- C7: the number is another value's
abbrev pub value_rule : Rules
value_rule c other = Some (record {
  rule = rule.ValueInUse c.thing.number;
  name = None;
  by = Some other.name;
})

-- `allow_alias` is set to true
abbrev pub allows_alias : Option EnumOptionValues → Bool
allows_alias options =
    unwrap_or (option_and_then (λ (o : EnumOptionValues). o.allow_alias) options) false

-- C7 at each value whose number an earlier one has, unless `allow_alias` is set to true
abbrev pub values_in_use : (file scope : Text) → EnumDescriptor → List Breach
values_in_use file scope e = if allows_alias e.options then []
    else conflicts value_rule [] (map (value_claim file scope) e.value)

-- C9 for an enum without values
abbrev pub without_values : List EnumValueDescriptor → Option Broken
without_values [] = Some (broken rule.EnumWithoutValues)
without_values (v ∷ vs) = None

-- whether a value has the number
abbrev pub has_number : ℤ → EnumValueDescriptor → Bool
has_number n v = int_eq v.number n

-- `allow_alias` is set, but not to true
abbrev pub forbids_alias : Option EnumOptionValues → Bool
forbids_alias options =
    not (unwrap_or (option_and_then (λ (o : EnumOptionValues). o.allow_alias) options) true)

-- C10 where `allow_alias` is set to false
abbrev pub aliases_forbidden : Option EnumOptionValues → Option Broken
aliases_forbidden options = broken_if (forbids_alias options) rule.AliasesForbidden

-- another value has the number too
abbrev pub is_shared : List EnumValueDescriptor → EnumValueDescriptor → Bool
is_shared values v = nat_lt 1 (count_by (has_number v.number) values)

-- C40 where it is set to true and no two values share a number
abbrev pub aliases_without_need : Option EnumOptionValues → List EnumValueDescriptor → Option Broken
aliases_without_need options values =
    broken_if (allows_alias options && not (list_any (is_shared values) values))
    rule.AliasesWithoutNeed

-- what is said of an enum itself
abbrev pub enum_rules : (proto3 : Bool) → EnumDescriptor → List (Option Broken)
enum_rules proto3 e =
    first_not_zero proto3 e.value
    ∷ without_values e.value
    ∷ aliases_forbidden e.options
    ∷ aliases_without_need e.options e.value
    ∷ []

-- ---- what an enum reserves: the ends of a range are both in it

-- whether the number lies in the range
abbrev pub in_closed_range : ℤ → Range → Bool
in_closed_range n r = not (int_lt n r.start) && not (int_lt r.end n)

-- whether it lies in one of these
abbrev pub in_closed_ranges : ℤ → List Range → Bool
in_closed_ranges n ranges = list_any (in_closed_range n) ranges

-- whether two ranges of an enum overlap, by the test of protoc's DescriptorBuilder: where no number
-- lies in one, the other has both its ends
abbrev pub closed_overlap : Range → Range → Bool
closed_overlap r s = not (int_lt s.end r.start) && not (int_lt r.end s.start)

-- whether another range overlaps the first one and begins no later
abbrev pub closed_overlaps_first : Range → Range → Bool
closed_overlaps_first r s = not (int_lt r.start s.start) && closed_overlap r s

-- whether more of the ranges than itself overlap it and begin no later
abbrev pub is_closed_overlapped : (ranges : List Range) → Range → Bool
is_closed_overlapped ranges r = nat_lt (count_by (closed_overlaps_first r) (r ∷ []))
    (count_by (closed_overlaps_first r) ranges)

-- C39 for such a range
abbrev pub closed_overlapping : (ranges : List Range) → Range → Option Broken
closed_overlapping ranges r =
    broken_if (is_closed_overlapped ranges r) (rule.RangesOverlap r.start)

-- of a range: C27 where its end is before its start, C39 where it overlaps another one
abbrev pub closed_range : Site → (ranges : List Range) → Range → List Breach
closed_range site ranges r = breaches_at site
    (broken_if (int_lt r.end r.start) (rule.RangeEmpty r.start)
    ∷ closed_overlapping ranges r
    ∷ [])

-- C29 and C30 for a value that has a number or a name which is reserved
abbrev pub value_rules : EnumDescriptor → EnumValueDescriptor → List (Option Broken)
value_rules e v =
    broken_if (in_closed_ranges v.number e.reserved_range) (rule.NumberReserved v.number)
    ∷ broken_if (is_among v.name e.reserved_name) rule.NameReserved
    ∷ []

-- of a value, which stands in the scope around the enum: C29 and C30
abbrev pub value_breaches : (file scope : Text) → EnumDescriptor → EnumValueDescriptor → List Breach
value_breaches file scope e v =
    breaches_at (record { file = file; construct = name_within scope v.name }) (value_rules e v)

-- of an enum and of its values
abbrev pub enum_breaches : BodyParts → EnumDescriptor → List Breach
enum_breaches p e =
    let site : Site = record { file = p.file; construct = name_within p.scope e.name } in
    breaches_at site (enum_rules p.proto3 e)
    ++ (flat_map (closed_range site e.reserved_range) e.reserved_range
    ++ (repeats rule.NameReservedTwice site e.reserved_name
    ++ (flat_map (value_breaches p.file p.scope e) e.value
    ++ (values_in_use p.file p.scope e
    ++ values_alike p e))))
