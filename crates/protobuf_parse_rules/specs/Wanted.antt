-- No public clause rests on this file.
-- Names and numbers that are looked at one by one: those of bodies that have one whose key is
-- wanted.
use Rattle.std.specs.Prelude.{◌≡◌, ℕ, ◌+◌, ◌≤◌, Bool, true, false, if◌then◌else◌, List, [], flat_map, map}
use Rattle.std.specs.Prelude.{nat_eq, option_to_list}
use Rattle.std.specs.List.{list_any}
use Rattle.protobuf_parse_model.specs.Descriptors.{FieldDescriptor}
use Rattle.protobuf_parse_rules.specs.Bodies.{BodyParts, extensions_of}
use Rattle.protobuf_parse_rules.specs.Claims.{Claim}
use Rattle.protobuf_parse_rules.specs.Crowds.{how_many, one_if}
use Rattle.protobuf_parse_rules.specs.Keys.{claim_key, extension_keys, field_key}
use Rattle.protobuf_parse_rules.specs.Keys.{keys_at, name_key, text_key}
use Rattle.protobuf_parse_rules.specs.Names.{Named, names_at}
use Rattle.protobuf_parse_rules.specs.Numbers.{claims}
use Rattle.protobuf_parse_rules.specs.Runtimes.{is_lite_path}

-- whether the key is one of these
abbrev pub has_key : List ℕ → ℕ → Bool
has_key keys k = list_any (nat_eq k) keys

-- ---- full names

abbrev pub is_wanted : List ℕ → Named → Bool
is_wanted keys n = has_key keys (name_key n)

-- those of a body
abbrev pub names_wanted : List ℕ → BodyParts → List Named
names_wanted keys p = if list_any (is_wanted keys) (names_at p) then names_at p else []

-- At most one of the names has the key, where those of packages count as one.
abbrev pub IsLone : List Named → ℕ → Type 0
IsLone ns k = how_many k (flat_map (keys_at false) ns)
    + one_if (has_key (flat_map (keys_at true) ns) k) ≤ 1

-- At most one has each key that is not wanted.
abbrev pub AreLone : List ℕ → List BodyParts → Type 0
AreLone keys all = (k : ℕ) → has_key keys k ≡ false → IsLone (flat_map names_at all) k

abbrev pub extendee_keys : FieldDescriptor → List ℕ
extendee_keys e = map text_key (option_to_list e.extendee)

-- the keys of what the extensions of a body extend, where its file is for the lite runtime
abbrev pub lite_keys : List BodyParts → BodyParts → List ℕ
lite_keys all p = if is_lite_path all p.file then flat_map extendee_keys (extensions_of p.content)
    else []

-- ---- numbers

abbrev pub is_wanted_number : List ℕ → Claim → Bool
is_wanted_number keys c = has_key keys (claim_key c)

-- a field, by the key of the message's name
abbrev pub is_wanted_field : List ℕ → ℕ → FieldDescriptor → Bool
is_wanted_field keys key f = has_key keys (field_key key f)

abbrev pub is_wanted_extension : List ℕ → FieldDescriptor → Bool
is_wanted_extension keys e = list_any (has_key keys) (extension_keys e)

-- those that a body claims
abbrev pub claims_wanted : List ℕ → BodyParts → List Claim
claims_wanted keys p = if list_any (is_wanted_number keys) (claims p) then claims p else []

-- At most one claim has each key that is not wanted.
abbrev pub AreOnce : List ℕ → List Claim → Type 0
AreOnce keys cs = (k : ℕ) → has_key keys k ≡ false → how_many k (map claim_key cs) ≤ 1
