-- The entries of a map: of each key the last, in ascending order of keys. Protocol Buffers Encoding
-- (https://protobuf.dev/programming-guides/encoding/), "Maps".
use Rattle.std.specs.Prelude.{ℕ, ℤ, pos, ◌==◌, Bool, true, false, List, [], ◌∷◌, map, if◌then◌else◌}
use Rattle.std.specs.BTreeMap.{insert_entry}
use Rattle.std.specs.Cmp.Lexicographic.{slice_cmp}
use Rattle.std.specs.Ordering.{int_cmp, nat_cmp, ordering_then}
use Rattle.std.specs.declared.cmp.Ordering.{Ordering}
use Rattle.protobuf_parse_merged.specs.Merged.{Value, number, float, double, truth, text, bytes}
use Rattle.protobuf_parse_merged.specs.Merged.{message, Values, no_values, value, Fields, no_fields}
use Rattle.protobuf_parse_merged.specs.Merged.{field, a_message}

-- a key: a number, and the bytes of a text
abbrev pub Key : Type 0
Key = ℤ × List ℕ

-- the key that stands where none is: zero, false or the empty text
abbrev pub no_key : Key
no_key = (pos 0, [])

-- A value as a key. Truth values are numbers; what no key can be is no key.
abbrev pub key_of_value : Value → Key
key_of_value (number u v) = (v, [])
key_of_value (float u) = no_key
key_of_value (double u) = no_key
key_of_value (truth false) = (pos 0, [])
key_of_value (truth true) = (pos 1, [])
key_of_value (text bs) = (pos 0, bs)
key_of_value (bytes bs) = (pos 0, bs)
key_of_value (message m) = no_key

-- the first of some values as a key
abbrev pub key_of_values : Values → Key
key_of_values no_values = no_key
key_of_values (value v vs) = key_of_value v

-- the key among the fields of an entry, which is field 1
abbrev pub key_in : Fields → Key
key_in no_fields = no_key
key_in (field n vs fs) = if n == 1 then key_of_values vs else key_in fs

-- the key of an entry
abbrev pub key_of : Value → Key
key_of (number u v) = no_key
key_of (float u) = no_key
key_of (double u) = no_key
key_of (truth b) = no_key
key_of (text bs) = no_key
key_of (bytes bs) = no_key
key_of (message (a_message fs us)) = key_in fs

-- the order of keys: of numbers by value, of texts by their bytes
abbrev pub key_cmp : Key → Key → Ordering
key_cmp a b = ordering_then (int_cmp a.0 b.0) (slice_cmp nat_cmp a.1 b.1)

-- Entries with their keys, in ascending order, and others: each in turn is put where its key belongs,
-- in place of one that has the key.
abbrev pub put_all : List (Key × Value) → List Value → List (Key × Value)
put_all es [] = es
put_all es (v ∷ vs) = put_all (insert_entry key_cmp es (key_of v) v) vs

-- the entries of a map
abbrev pub by_keys : List Value → List Value
by_keys vs = map (λ (e : Key × Value). e.1) (put_all [] vs)

-- values, those of a map by their keys
abbrev pub arranged : (is_map : Bool) → List Value → List Value
arranged is_map vs = if is_map then by_keys vs else vs
