-- Fields of which no rule of fields speaks.
use Rattle.std.proofs.Common.{◌≡◌, pos, Bool, true, false, not, List, [], ◌∷◌, refl, ap, ◌∙◌}
use Rattle.std.proofs.Common.{Option}
use Rattle.std.proofs.Common.{None, Some}
use Rattle.std.specs.Prelude.{◌&&◌, is_none, is_some, if◌then◌else◌, option_and_then}
use Rattle.std.specs.List.{AllByRecursion}
use Rattle.std.specs.Ordering.{int_eq}
use Rattle.protobuf_parse_model.specs.declared.descriptor.FieldType.{FieldType}
use Rattle.protobuf_parse_model.specs.declared.descriptor.FieldType.TheVariants as kind
use Rattle.protobuf_parse_model.specs.Descriptors.{FieldDescriptor, Range, Text}
use Rattle.protobuf_parse_rules.specs.Enums.{not_zero}
use Rattle.protobuf_parse_rules.specs.EnumUses.{enum_of_field}
use Rattle.protobuf_parse_rules.specs.EnumUses.{is_enum}
use Rattle.protobuf_parse_rules.specs.EnumUses.{map_value, of_enum}
use Rattle.protobuf_parse_rules.specs.Limits.{limit}
use Rattle.protobuf_parse_rules.specs.Lookups.{NamedEnum, enum_named}
use Rattle.protobuf_parse_rules.specs.Maps.{is_entry, is_no_key}
use Rattle.protobuf_parse_rules.specs.MessageSets.{is_message_set}
use Rattle.protobuf_parse_rules.specs.Ordinary.{bars_nothing, is_group_or_enum, is_nil}
use Rattle.protobuf_parse_rules.specs.Ordinary.{keeps_nothing}
use Rattle.protobuf_parse_rules.specs.Bodies.{Content, BodyParts, extension_ranges, reserved_names}
use Rattle.protobuf_parse_rules.specs.Bodies.{reserved_ranges}
use Rattle.protobuf_parse_rules.specs.Proto3.{is_group}
use Rattle.protobuf_parse_rules.specs.Ranges.{in_ranges, is_among}
use Rattle.protobuf_parse_rules.specs.Rules.{Broken, Site, breaches_at, broken_by, broken_if}
use Rattle.protobuf_parse_rules.specs.Violations.{field_rules}
use Rattle.protobuf_parse_rules.specs.declared.rule.Rule.{Rule}
use Rattle.protobuf_parse_rules.specs.declared.rule.Rule.TheVariants as rule

pub first : (a b : Bool) → (a && b) ≡ true → a ≡ true
first true b e = refl
first false b e = absurd cc

pub second : (a b : Bool) → (a && b) ≡ true → b ≡ true
second true b e = e
second false b e = absurd cc

pub untrue : (b : Bool) → not b ≡ true → b ≡ false
untrue false e = refl
untrue true e = absurd cc

pub and_false : (a b : Bool) → b ≡ false → (a && b) ≡ false
and_false true b e = e
and_false false b e = refl

pub none_is : {X : Type 0} (o : Option X) → is_none o ≡ true → o ≡ None
none_is None e = refl
none_is (Some x) e = absurd cc

nil_is : {X : Type 0} (xs : List X) → is_nil xs ≡ true → xs ≡ []
nil_is [] e = refl
nil_is (x ∷ xs) e = absurd cc

-- rules that say nothing are passed over
abbrev pub AreSilent : List (Option Broken) → Type 0
AreSilent os = AllByRecursion (λ o. o ≡ None) os

pub silent : (site : Site) (os : List (Option Broken)) → AreSilent os → breaches_at site os ≡ []
silent site [] none = refl
silent site (o ∷ os) none = ap (λ x. breaches_at site (x ∷ os)) none.0 ∙ silent site os none.1

pub unbroken : (b : Bool) (r : Rule) → b ≡ false → broken_if b r ≡ None
unbroken b r e = ap (λ x. broken_if x r) e

-- ---- by the field

pub other_kind : (t : FieldType) → is_group_or_enum t ≡ false
    → (is_group t ≡ false) × (is_enum t ≡ false)
other_kind kind.Group e = absurd cc
other_kind kind.Enum e = absurd cc
other_kind kind.Double e = (refl, refl)
other_kind kind.Float e = (refl, refl)
other_kind kind.Int64 e = (refl, refl)
other_kind kind.Uint64 e = (refl, refl)
other_kind kind.Int32 e = (refl, refl)
other_kind kind.Fixed64 e = (refl, refl)
other_kind kind.Fixed32 e = (refl, refl)
other_kind kind.Bool e = (refl, refl)
other_kind kind.String e = (refl, refl)
other_kind kind.Message e = (refl, refl)
other_kind kind.Bytes e = (refl, refl)
other_kind kind.Uint32 e = (refl, refl)
other_kind kind.Sfixed32 e = (refl, refl)
other_kind kind.Sfixed64 e = (refl, refl)
other_kind kind.Sint32 e = (refl, refl)
other_kind kind.Sint64 e = (refl, refl)

module _ (all : List BodyParts) (f : FieldDescriptor) where
  pub no_enum : (r : NamedEnum → Option Broken) → is_enum f.type_ ≡ false → of_enum all r f ≡ None
  no_enum r e = ap (λ b. option_and_then r
      (if b then option_and_then (enum_named all) f.type_name else None)) e

-- ---- by the message

module _ (all : List BodyParts) (content : Content) (f : FieldDescriptor) where
  pub no_map_value : (o : Option NamedEnum) → is_entry content ≡ false
      → option_and_then (map_value content f) o ≡ None
  no_map_value None e = refl
  no_map_value (Some x) e =
      ap (λ b. if (b && int_eq f.number (pos 2)) && is_some (not_zero x.what.value)
      then Some (broken_by rule.MapValueNotZero x.name) else None) e

  pub unbarred_told : (site : Site) → bars_nothing content ≡ true
      → is_none (limit false f.number) ≡ true
      → breaches_at site (field_rules all content f) ≡ []
  unbarred_told site e number =
      let front = first (keeps_nothing content && not (is_message_set content))
      (not (is_entry content)) e in
      let entry = untrue (is_entry content)
      (second (keeps_nothing content && not (is_message_set content)) (not (is_entry content)) e) in
      let keeps = first (keeps_nothing content) (not (is_message_set content)) front in
      let set = untrue (is_message_set content)
      (second (keeps_nothing content) (not (is_message_set content)) front) in
      let ranges = first (is_nil (reserved_ranges content) && is_nil (extension_ranges content))
      (is_nil (reserved_names content)) keeps in
      let reserved = nil_is (reserved_ranges content)
      (first (is_nil (reserved_ranges content)) (is_nil (extension_ranges content)) ranges) in
      let kept = nil_is (extension_ranges content)
      (second (is_nil (reserved_ranges content)) (is_nil (extension_ranges content)) ranges) in
      let names = nil_is (reserved_names content)
      (second (is_nil (reserved_ranges content) && is_nil (extension_ranges content))
      (is_nil (reserved_names content)) keeps) in
      silent site (field_rules all content f) (
        none_is (limit false f.number) number,
        (
          ap (λ (rs : List Range). broken_if (in_ranges f.number rs) (rule.NumberReserved f.number))
              reserved,
          (
            ap (λ (ns : List Text). broken_if (is_among f.name ns) rule.NameReserved) names,
            (
              ap (λ (rs : List Range).
                  broken_if (in_ranges f.number rs) (rule.NumberKeptForExtensions f.number)) kept,
              (
                unbroken _ rule.FieldInMessageSet set,
                (
                  ap (λ b. broken_if (b && (int_eq f.number
                      (pos 1) && is_no_key f.type_)) rule.MapKey)
                      entry,
                  (no_map_value (enum_of_field all f) entry, tt),
                ),
              ),
            ),
          ),
        ),
      )
