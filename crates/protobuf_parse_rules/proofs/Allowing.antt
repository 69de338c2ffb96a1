-- Fields that break no rule, though their message bars something, or they have options.
use Rattle.std.proofs.Common.{◌≡◌, pos, Bool, true, false, not, ◌||◌, [], List, refl, ap, Option}
use Rattle.std.proofs.Common.{None, Some, inl, inr}
use Rattle.std.specs.Prelude.{◌&&◌, is_none, is_some, if◌then◌else◌, option_and_then}
use Rattle.std.specs.Ordering.{int_eq}
use Rattle.std.proofs.lemmas.Bool.{cases_Bool}
use Rattle.protobuf_parse_model.specs.declared.descriptor.FieldType.{FieldType}
use Rattle.protobuf_parse_model.specs.Descriptors.{FieldDescriptor, Text}
use Rattle.protobuf_parse_rules.specs.Defaults.{default_of}
use Rattle.protobuf_parse_rules.specs.EnumUses.{default_value, enum_of_field, enum_of_proto2}
use Rattle.protobuf_parse_rules.specs.EnumUses.{has_value, is_enum, map_value, of_enum}
use Rattle.protobuf_parse_rules.specs.FieldOptions.{js_type_option, lazy_option, option_of}
use Rattle.protobuf_parse_rules.specs.FieldOptions.{packed_option}
use Rattle.protobuf_parse_rules.specs.Limits.{limit}
use Rattle.protobuf_parse_rules.specs.Lookups.{NamedEnum}
use Rattle.protobuf_parse_rules.specs.Maps.{is_entry, is_no_key}
use Rattle.protobuf_parse_rules.specs.MessageSets.{is_message_set}
use Rattle.protobuf_parse_rules.specs.Ordinary.{allows, has_common_options, is_common, is_free}
use Rattle.protobuf_parse_rules.specs.Ordinary.{is_group_or_enum, is_noted, is_odd_in_map}
use Rattle.protobuf_parse_rules.specs.Bodies.{Content, BodyParts, extension_ranges, reserved_names}
use Rattle.protobuf_parse_rules.specs.Bodies.{reserved_ranges}
use Rattle.protobuf_parse_rules.specs.Proto3.{is_group, is_required}
use Rattle.protobuf_parse_rules.specs.Ranges.{in_ranges, is_among}
use Rattle.protobuf_parse_rules.specs.Rules.{Site, breaches_at, broken_by}
use Rattle.protobuf_parse_rules.specs.Violations.{common_rules, field_rules}
use Rattle.protobuf_parse_rules.specs.declared.rule.Rule.TheVariants as rule
use Rattle.protobuf_parse_rules.proofs.Passing.{first, second, untrue, none_is, silent, unbroken}
use Rattle.protobuf_parse_rules.proofs.Passing.{other_kind, no_enum, no_map_value}

-- ---- tests

key_free : (e m k : Bool) → (e && (m || k)) ≡ false → (e && k) ≡ false
key_free false m k h = refl
key_free true false k h = h
key_free true true k h = absurd cc

enum_free : (e m k : Bool) → (e && (m || k)) ≡ false → e ≡ true → m ≡ false
enum_free true false k h so = refl
enum_free true true k h so = absurd cc
enum_free false m k h so = absurd cc

required_free : (p r g d : Bool) → (p && ((r || g) || d)) ≡ false → (p && r) ≡ false
required_free false r g d h = refl
required_free true false g d h = refl
required_free true true g d h = absurd cc

kind_free : (p r g d : Bool) → (p && ((r || g) || d)) ≡ false → (p && g) ≡ false
kind_free false r g d h = refl
kind_free true r false d h = refl
kind_free true false true d h = absurd cc
kind_free true true true d h = absurd cc

default_free : (p r g d : Bool) → (p && ((r || g) || d)) ≡ false → (p && d) ≡ false
default_free false r g d h = refl
default_free true r g false h = refl
default_free true true g true h = absurd cc
default_free true false true true h = absurd cc
default_free true false false true h = absurd cc

pub without : (a b : Bool) → (a && b) ≡ false → b ≡ true → a ≡ false
without false b h so = refl
without true true h so = absurd cc
without true false h so = absurd cc

group_free : (p : Bool) (t : FieldType) → (p && is_group_or_enum t) ≡ false
    → (p && is_group t) ≡ false
group_free false t h = refl
group_free true t h = (other_kind t h).0

pub not_some : {X : Type 0} (o : Option X) → is_some o ≡ false → o ≡ None
not_some None h = refl
not_some (Some x) h = absurd cc

-- ---- enums

-- A file of proto2 may use each enum.
pub never_proto2 : (o : Option NamedEnum) → option_and_then (enum_of_proto2 false) o ≡ None
never_proto2 None = refl
never_proto2 (Some e) = refl

module _ (all : List BodyParts) (f : FieldDescriptor) where
  of_proto2 : (proto3 : Bool) → (proto3 && is_group_or_enum f.type_) ≡ false
      → of_enum all (enum_of_proto2 proto3) f ≡ None
  of_proto2 false h = never_proto2 (enum_of_field all f)
  of_proto2 true h = no_enum all f (enum_of_proto2 true) (other_kind f.type_ h).1

  pub no_default : (o : Option NamedEnum) → f.default_value ≡ None
      → option_and_then (default_value f) o ≡ None
  no_default None e = refl
  no_default (Some x) e =
      ap (λ d. option_and_then (λ (text : Text). if has_value x text then None
      else Some (broken_by rule.NoValueOfName text)) d) e

  known_default : (is_some f.default_value && is_enum f.type_) ≡ false
      → of_enum all (default_value f) f ≡ None
  known_default h =
      elim (cases_Bool (is_enum f.type_)) [
        | inl so ↦ no_default (enum_of_field all f)
            (not_some f.default_value (without (is_some f.default_value) (is_enum f.type_) h so))
        | inr not_so ↦ no_enum all f (default_value f) not_so
      ]

  -- ---- by the field

  pub common_told : (proto3 : Bool) (site : Site) → is_common proto3 f ≡ true
      → breaches_at site (common_rules all proto3 f) ≡ []
  common_told proto3 site e =
      let noted = proto3 && is_noted f in
      let asks = is_some f.default_value && is_enum f.type_ in
      let silent_default = is_none (default_of f f.default_value) in
      let packed = option_of (packed_option f.label f.type_) f in
      let lazy = option_of (lazy_option f.type_) f in
      let js_type = option_of (js_type_option f.type_) f in
      let front = first ((not noted && not asks) && silent_default) (has_common_options f) e in
      let options = second ((not noted && not asks) && silent_default) (has_common_options f) e in
      let both = first (not noted && not asks) silent_default front in
      let default = second (not noted && not asks) silent_default front in
      let unnoted = untrue noted (first (not noted) (not asks) both) in
      let unasked = untrue asks (second (not noted) (not asks) both) in
      let two = first (is_none packed && is_none lazy) (is_none js_type) options in
      let kinds = kind_free proto3 (is_required f.label) (is_group_or_enum f.type_)
      (is_some f.default_value) unnoted in
      silent site (common_rules all proto3 f) (
        unbroken _ rule.RequiredInProto3 (required_free proto3 (is_required f.label)
            (is_group_or_enum f.type_) (is_some f.default_value) unnoted),
        (
          unbroken _ rule.GroupInProto3 (group_free proto3 f.type_ kinds),
          (
            unbroken _ rule.DefaultInProto3 (default_free proto3 (is_required f.label)
                (is_group_or_enum f.type_) (is_some f.default_value) unnoted),
            (
              none_is (default_of f f.default_value) default,
              (
                none_is packed (first (is_none packed) (is_none lazy) two),
                (
                  none_is lazy (second (is_none packed) (is_none lazy) two),
                  (
                    none_is js_type (second (is_none packed && is_none lazy)
                        (is_none js_type) options),
                    (of_proto2 proto3 kinds, (known_default unasked, tt)),
                  ),
                ),
              ),
            ),
          ),
        ),
      )

-- ---- by the message

module _ (all : List BodyParts) (content : Content) (f : FieldDescriptor) where
  value_free : (is_entry content && is_odd_in_map f) ≡ false
      → of_enum all (map_value content f) f ≡ None
  value_free h =
      elim (cases_Bool (is_entry content)) [
        | inl so ↦ no_enum all f (map_value content f)
            (enum_free (is_entry content) (is_enum f.type_)
            (int_eq f.number (pos 1) && is_no_key f.type_) h so)
        | inr not_so ↦ no_map_value all content f (enum_of_field all f) not_so
      ]

  pub allowed_told : (site : Site) → allows content f ≡ true
      → is_none (limit false f.number) ≡ true
      → breaches_at site (field_rules all content f) ≡ []
  allowed_told site e number =
      let odd = is_entry content && is_odd_in_map f in
      let reserved = in_ranges f.number (reserved_ranges content) in
      let kept = in_ranges f.number (extension_ranges content) in
      let named = is_among f.name (reserved_names content) in
      let front = first (is_free content f && not (is_message_set content)) (not odd) e in
      let map = untrue odd
      (second (is_free content f && not (is_message_set content)) (not odd) e) in
      let free = first (is_free content f) (not (is_message_set content)) front in
      let set = untrue (is_message_set content)
      (second (is_free content f) (not (is_message_set content)) front) in
      let numbers = first (not reserved && not kept) (not named) free in
      silent site (field_rules all content f) (
        none_is (limit false f.number) number,
        (
          unbroken _ (rule.NumberReserved f.number)
              (untrue reserved (first (not reserved) (not kept) numbers)),
          (
            unbroken _ rule.NameReserved
                (untrue named (second (not reserved && not kept) (not named) free)),
            (
              unbroken _ (rule.NumberKeptForExtensions f.number)
                  (untrue kept (second (not reserved) (not kept) numbers)),
              (
                unbroken _ rule.FieldInMessageSet set,
                (
                  unbroken _ rule.MapKey (key_free (is_entry content) (is_enum f.type_)
                      (int_eq f.number (pos 1) && is_no_key f.type_) map),
                  (value_free map, tt),
                ),
              ),
            ),
          ),
        ),
      )
