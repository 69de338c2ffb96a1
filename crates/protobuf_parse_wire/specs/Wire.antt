-- Which bytes spell a list of entries: the summing up of given bytes, and nothing of how they are
-- written. Protocol Buffers Encoding, "Base 128 Varints", "Message Structure", "More Integer Types"
-- and "Length-Delimited Records" (https://protobuf.dev/programming-guides/encoding/).
use Rattle.std.specs.Prelude.{◌≡◌, ℕ, ℤ, pos, negsuc, ◌+◌, ◌*◌, ◌%◌, ◌<◌, ◌≤◌, Bool, List, [], ◌∷◌}
use Rattle.std.specs.Prelude.{◌++◌, length, if◌then◌else◌}
use Rattle.std.specs.Int.{w32, w64, to_le_bytes, cast_unsigned}
use Rattle.std.specs.List.{AllByRecursion}
use mir.Syntax.{Width}
use Rattle.protobuf_parse_wire.specs.Kinds.{Word, varint, eight_bytes, four_bytes, Code, unsigned}
use Rattle.protobuf_parse_wire.specs.Kinds.{twos_complement, zigzag, KindShape, whole, truth, text}
use Rattle.protobuf_parse_wire.specs.Kinds.{octets, message, shape_of_kind, wire_type}
use Rattle.protobuf_parse_wire.specs.Trees as trees
use Rattle.protobuf_parse_wire.specs.Trees.{EntryTree, Entries, no_entries, entry}

-- ---- varints

-- the groups of seven low bits, the first the lowest, summed up by powers of 128
abbrev pub groups : List ℕ → ℕ
groups [] = 0
groups (b ∷ bs) = b % 128 + 128 * groups bs

-- The byte carries the continuation bit: another one comes after it.
abbrev pub Continues : ℕ → Type 0
Continues b = 128 ≤ b

-- Each byte but the last continues.
abbrev pub IsChain : List ℕ → Type 0
IsChain [] = ⊥
IsChain (b ∷ []) = b < 128
IsChain (b ∷ c ∷ bs) = Continues b × IsChain (c ∷ bs)

-- The last byte isn't 0.
abbrev pub EndsAboveZero : List ℕ → Type 0
EndsAboveZero [] = Unit {0}
EndsAboveZero (b ∷ []) = 0 < b
EndsAboveZero (b ∷ c ∷ bs) = EndsAboveZero (c ∷ bs)

-- A chain of several bytes doesn't end in 0, so no shorter one says the same.
abbrev pub IsShortest : List ℕ → Type 0
IsShortest [] = Unit {0}
IsShortest (b ∷ []) = Unit {0}
IsShortest (b ∷ c ∷ bs) = EndsAboveZero (c ∷ bs)

-- The bytes spell the number as a varint.
pub record IsVarint (bs : List ℕ) (u : ℕ) : Type 0 where
  pub bytes : AllByRecursion (λ b. b < 256) bs
  pub chain : IsChain bs
  pub shortest : IsShortest bs
  pub value : u ≡ groups bs

-- ---- whole numbers

-- 0, -1, 1, -2, 2 .. are 0, 1, 2, 3, 4 ..
abbrev pub zigzag_of : ℤ → ℕ
zigzag_of (pos n) = 2 * n
zigzag_of (negsuc n) = 2 * n + 1

-- how many bits two's complement has: a varint has the 64 bits of the sign extension
abbrev pub width : Word → Width
width varint = w64
width eight_bytes = w64
width four_bytes = w32

-- The unsigned number stands for the number.
abbrev pub IsCode : Word → Code → ℤ → ℕ → Type 0
IsCode word unsigned v u = pos u ≡ v
IsCode word twos_complement v u = u ≡ cast_unsigned (width word) v
IsCode word zigzag v u = u ≡ zigzag_of v

-- The bytes are the unsigned number: as a varint, or in little-endian order.
abbrev pub SaysWord : Word → ℕ → List ℕ → Type 0
SaysWord varint u bs = IsVarint bs u
SaysWord eight_bytes u bs = bs ≡ to_le_bytes w64 u
SaysWord four_bytes u bs = bs ≡ to_le_bytes w32 u

-- The bytes are the number as such a kind has it; others have no whole numbers.
abbrev pub SaysNumber : KindShape → ℤ → List ℕ → Type 0
SaysNumber (whole word w code) v bs = (u : ℕ) × IsCode word code v u × SaysWord word u bs
SaysNumber truth v bs = ⊥
SaysNumber text v bs = ⊥
SaysNumber octets v bs = ⊥
SaysNumber message v bs = ⊥

-- The bytes are the truth value, as 0 or 1, where the kind has such.
abbrev pub SaysTruth : KindShape → Bool → List ℕ → Type 0
SaysTruth truth b bs = IsVarint bs (if b then 1 else 0)
SaysTruth (whole word w code) b bs = ⊥
SaysTruth text b bs = ⊥
SaysTruth octets b bs = ⊥
SaysTruth message b bs = ⊥

-- ---- length-delimited values

-- A varint with the length of the inside, then the inside.
pub record SaysDelimited (inside bs : List ℕ) : Type 0 where
  pub front : List ℕ
  pub parts : bs ≡ front ++ inside
  pub length_first : IsVarint front (length inside)

-- such a kind's values are texts or bytes
abbrev pub HasBytes : KindShape → Type 0
HasBytes text = Unit {0}
HasBytes octets = Unit {0}
HasBytes (whole word w code) = ⊥
HasBytes truth = ⊥
HasBytes message = ⊥

-- such a kind's values are messages
abbrev pub HasMessages : KindShape → Type 0
HasMessages message = Unit {0}
HasMessages (whole word w code) = ⊥
HasMessages truth = ⊥
HasMessages text = ⊥
HasMessages octets = ⊥

-- ---- records

abbrev mutual
  -- Each entry has its record, one behind the other: a tag, which is eight times the number and the
  -- wire type, and a payload.
  pub Spells : Entries → List ℕ → Type 0
  Spells no_entries bs = bs ≡ []
  Spells (entry n k v others) bs = (tag payload more : List ℕ) × (bs ≡ tag ++ (payload ++ more))
      × IsVarint tag (n * 8 + wire_type (shape_of_kind k)) × Says (shape_of_kind k) v payload
      × Spells others more

  -- The payload is the value of such a kind.
  pub Says : KindShape → EntryTree → List ℕ → Type 0
  Says s (trees.number v) bs = SaysNumber s v bs
  Says s (trees.truth b) bs = SaysTruth s b bs
  Says s (trees.bytes inside) bs = HasBytes s × SaysDelimited inside bs
  Says s (trees.message es) bs = (inside : List ℕ) × HasMessages s × SaysDelimited inside bs
      × Spells es inside
