-- Which bytes a reader takes for a number, and how it refuses others. Protocol Buffers Encoding,
-- "Base 128 Varints" (https://protobuf.dev/programming-guides/encoding/): a varint has one to ten
-- bytes, each with seven bits of the number, the lowest first, and with the continuation bit where
-- another byte comes after it.
use Rattle.std.specs.Prelude.{◌≡◌, ◌⊎◌, ◌↔◌, ℕ, ◌<◌, ◌≤◌, ◌^◌, List, ◌++◌, length, Ok, Err}
use Rattle.std.specs.List.{AllByRecursion}
use Rattle.protobuf_parse_wire.specs.declared.fault.ReadFault.{ReadFault}
use Rattle.protobuf_parse_wire.specs.declared.fault.ReadFault.TheVariants.{Truncated, BadVarint}
use Rattle.protobuf_parse_wire.specs.Wire.{groups, Continues, IsChain}
use Rattle.protobuf_parse_wire.specs.Reading.{varint_at}

-- The bytes are a varint of the number, the shortest one or a longer one: a chain of at most ten
-- bytes, whose groups sum up to the number, which has 64 bits.
pub record IsAnyVarint (bs : List ℕ) (u : ℕ) : Type 0 where
  pub chain : IsChain bs
  pub at_most_ten : length bs ≤ 10
  pub value : u ≡ groups bs
  pub fits : u < 2 ^ 64

-- There are fewer than ten bytes, and each of them continues.
pub record EndsInside (bs : List ℕ) : Type 0 where
  pub few : length bs < 10
  pub continues : AllByRecursion Continues bs

-- Each of the first ten bytes continues.
pub record IsTooLong (bs : List ℕ) : Type 0 where
  pub front : List ℕ
  pub rest : List ℕ
  pub parts : bs ≡ front ++ rest
  pub ten : length front ≡ 10
  pub continues : AllByRecursion Continues front

-- The bytes begin with a chain of at most ten, whose groups sum up to more than 64 bits hold.
pub record IsTooLarge (bs : List ℕ) : Type 0 where
  pub front : List ℕ
  pub rest : List ℕ
  pub parts : bs ≡ front ++ rest
  pub chain : IsChain front
  pub at_most_ten : length front ≤ 10
  pub large : 2 ^ 64 ≤ groups front

-- why bytes don't begin with a varint
abbrev pub IsVarintFault : List ℕ → ReadFault → Type 0
IsVarintFault bs e = ((e ≡ Truncated) × EndsInside bs)
    ⊎ ((e ≡ BadVarint) × (IsTooLong bs ⊎ IsTooLarge bs))

-- ---- the laws

-- A number and the bytes behind it are read just where the bytes begin with a varint of it.
abbrev pub VarintsAreRead : Type 0
VarintsAreRead = (bs : List ℕ) (u : ℕ) (rest : List ℕ)
    → (varint_at 10 bs ≡ Ok (u, rest))
    ↔ ((front : List ℕ) × (bs ≡ front ++ rest) × IsAnyVarint front u)

-- Other bytes are refused, just with the fault that says why they don't begin with one.
abbrev pub OthersAreRefused : Type 0
OthersAreRefused = (bs : List ℕ) (e : ReadFault)
    → (varint_at 10 bs ≡ Err e) ↔ IsVarintFault bs e
