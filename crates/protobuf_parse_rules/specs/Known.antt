-- No public clause rests on this file.
-- What the tables of the code say of messages and enums.
use Rattle.std.specs.Prelude.{◌≡◌, ℕ, List, flat_map, find, option_map, bytes_eq, string_bytes}
use Rattle.std.specs.Cmp.Lexicographic.{slice_cmp}
use Rattle.std.specs.Ordering.{nat_cmp, ordering_then}
use Rattle.std.specs.declared.cmp.Ordering.{Ordering}
use Rattle.std.specs.Borrow.{Bor}
use Rattle.std.specs.BTreeMap.{BTreeMap, get}
use Rattle.protobuf_parse_model.specs.ByHash.{hash_of}
use Rattle.protobuf_parse_model.specs.Descriptors.{Text, enum_view}
use Rattle.protobuf_parse_rules.specs.Lookups.{NamedEnum, NamedMessage, enums_at, message_at}
use Rattle.protobuf_parse_rules.specs.Bodies.{BodyParts}
use Rattle.protobuf_parse_rules.specs.BodyViews.{content_view}
use Rattle.protobuf_parse_rules.specs.declared.known.KnownEnum.{KnownEnum}
use Rattle.protobuf_parse_rules.specs.declared.known.KnownMessage.{KnownMessage}
use Rattle.protobuf_parse_rules.specs.declared.tables.OwnedEnum.{OwnedEnum}
use Rattle.protobuf_parse_rules.specs.declared.tables.Types.{Types}

-- a text behind its hash
abbrev pub Keyed : Type 0
Keyed = ℕ × Bor (List ℕ)

abbrev pub keyed : Bor (List ℕ) → Keyed
keyed t = (hash_of t.now, t)

abbrev pub keyed_cmp : Keyed → Keyed → Ordering
keyed_cmp a b = ordering_then (nat_cmp a.0 b.0) (slice_cmp nat_cmp a.1.now b.1.now)

-- The map has the first of the things that have each name.
pub record Finds {V X : Type 0} (view : V → X) (name : X → Text) (m : BTreeMap Keyed V)
    (xs : List X) : Type 0 where
  pub at : (k : Bor (List ℕ))
      → option_map view (get keyed_cmp m (keyed k)) ≡ find (λ (x : X). bytes_eq (name x) k.now) xs

abbrev pub known_message : KnownMessage → NamedMessage
known_message m =
    record { file = m.file.now; name = m.name.now; what = content_view m.holds }

abbrev pub known_enum : KnownEnum → NamedEnum
known_enum e = record {
  file = e.file.now;
  name = e.name.now;
  proto3 = e.proto3;
  what = enum_view e.each.now;
}

abbrev pub owned_enum : OwnedEnum → NamedEnum
owned_enum e = record {
  file = e.file.now;
  name = string_bytes e.name;
  proto3 = e.proto3;
  what = enum_view e.each.now;
}

abbrev pub message_name : NamedMessage → Text
message_name m = m.name

abbrev pub enum_name : NamedEnum → Text
enum_name e = e.name

-- They tell of what these bodies declare.
pub record KnowsTypes (t : Types) (all : List BodyParts) : Type 0 where
  pub messages : Finds known_message message_name t.messages (flat_map message_at all)
  pub enums : Finds known_enum enum_name t.enums (flat_map enums_at all)
