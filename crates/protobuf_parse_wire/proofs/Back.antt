-- The number on the wire stands for one value.
use Rattle.std.proofs.Common.{◌≡◌, ℕ, suc, ◌+◌, ◌*◌, ◌/◌, ◌%◌, ◌^◌, ◌<◌, ℤ, pos, negsuc, Bool, true}
use Rattle.std.proofs.Common.{false, List, ◌++◌, length, Option, Ok, refl, ap, arith}
use Rattle.std.specs.Int.{w32, w64, cast_signed, cast_unsigned, FitsUnsigned}
use Rattle.std.specs.Int.RustNames.{FitsSigned}
use mir.Syntax.{Width}
use Rattle.std.proofs.lemmas.Int.{ints}
use Rattle.std.proofs.lemmas.Bool.{eq-eqb, ne_eqb, le-ltb}
use Rattle.std.proofs.lemmas.Str.{is_utf8-from_IsUtf8}
use Rattle.protobuf_parse_model.specs.Descriptors.{Text}
use Rattle.protobuf_parse_wire.specs.declared.kind.Kind.{Kind}
use Rattle.protobuf_parse_wire.specs.declared.kind.Kind.TheVariants as kinds
use Rattle.protobuf_parse_wire.specs.Kinds.{Word, varint, eight_bytes, four_bytes, Code, unsigned}
use Rattle.protobuf_parse_wire.specs.Kinds.{twos_complement, zigzag, KindShape, whole, truth, text}
use Rattle.protobuf_parse_wire.specs.Kinds.{octets, message, shape_of_kind, InRange}
use Rattle.protobuf_parse_wire.specs.Trees as trees
use Rattle.protobuf_parse_wire.specs.Trees.{Field, fields_of_list}
use Rattle.protobuf_parse_wire.specs.Wire.{zigzag_of, SaysWord, SaysNumber, SaysTruth}
use Rattle.protobuf_parse_wire.specs.Wire.{SaysDelimited, HasBytes, HasMessages}
use Rattle.protobuf_parse_wire.specs.Reading.{Inner, word_at, decoded, unzigzag, payload_at}
use Rattle.protobuf_parse_wire.specs.Law.{IsText}
use Rattle.protobuf_parse_wire.proofs.Ranges.{Converts, converts}
use Rattle.protobuf_parse_wire.proofs.Varint.{varint_again, delimited_again, four_again}
use Rattle.protobuf_parse_wire.proofs.Varint.{eight_again}

-- ---- each code, at each number of bits

unsigned32_back : (v : ℤ) (u : ℕ) → pos u ≡ v → FitsUnsigned w32 v
    → (u < 2 ^ 32) × (pos (u % 2 ^ 32) ≡ v)
unsigned32_back v u e fits = (omega (arith, ints), omega (arith, ints))

unsigned64_back : (v : ℤ) (u : ℕ) → pos u ≡ v → FitsUnsigned w64 v
    → (u < 2 ^ 64) × (pos (u % 2 ^ 64) ≡ v)
unsigned64_back v u e fits = (omega (arith, ints), omega (arith, ints))

low_negative32 : (x n : ℕ) → x + suc n ≡ 2 ^ 32 → n < 2 ^ 31 → cast_signed w32 x ≡ negsuc n
low_negative32 x n e lt =
    rw (le-ltb x (2 ^ 31) (omega arith)) (ap (λ (m : ℕ). negsuc m) (omega arith))

low_negative64 : (x n : ℕ) → x + suc n ≡ 2 ^ 64 → n < 2 ^ 63 → cast_signed w64 x ≡ negsuc n
low_negative64 x n e lt =
    rw (le-ltb x (2 ^ 63) (omega arith)) (ap (λ (m : ℕ). negsuc m) (omega arith))

-- 32 bits in 64 by sign extension
extended_back : (v : ℤ) (u : ℕ) → u ≡ cast_unsigned w64 v → FitsSigned w32 v
    → (u < 2 ^ 64) × (cast_signed w32 (u % 2 ^ 32) ≡ v)
extended_back (pos n) u e fits = (omega (arith, ints), omega (arith, ints))
extended_back (negsuc n) u e fits =
    (omega (arith, ints), low_negative32 (u % 2 ^ 32) n (omega (arith, ints)) (omega (arith, ints)))

signed32_back : (v : ℤ) (u : ℕ) → u ≡ cast_unsigned w32 v → FitsSigned w32 v
    → (u < 2 ^ 32) × (cast_signed w32 (u % 2 ^ 32) ≡ v)
signed32_back (pos n) u e fits = (omega (arith, ints), omega (arith, ints))
signed32_back (negsuc n) u e fits =
    (omega (arith, ints), low_negative32 (u % 2 ^ 32) n (omega (arith, ints)) (omega (arith, ints)))

signed64_back : (v : ℤ) (u : ℕ) → u ≡ cast_unsigned w64 v → FitsSigned w64 v
    → (u < 2 ^ 64) × (cast_signed w64 (u % 2 ^ 64) ≡ v)
signed64_back (pos n) u e fits = (omega (arith, ints), omega (arith, ints))
signed64_back (negsuc n) u e fits =
    (omega (arith, ints), low_negative64 (u % 2 ^ 64) n (omega (arith, ints)) (omega (arith, ints)))

even_back : (u low n : ℕ) → u % low ≡ 2 * n → unzigzag (u % low) ≡ pos n
even_back u low n e =
    let half : (2 * n) / 2 ≡ n = omega arith in
    rw (e, eq-eqb ((2 * n) % 2) 0 (omega arith), half) refl

odd_back : (u low n : ℕ) → u % low ≡ 2 * n + 1 → unzigzag (u % low) ≡ negsuc n
odd_back u low n e =
    let half : (2 * n + 1) / 2 ≡ n = omega arith in
    rw (e, ne_eqb ((2 * n + 1) % 2) 0 (λ h. omega arith), half) refl

zigzag32_back : (v : ℤ) (u : ℕ) → u ≡ zigzag_of v → FitsSigned w32 v
    → (u < 2 ^ 64) × (unzigzag (u % 2 ^ 32) ≡ v)
zigzag32_back (pos n) u e fits =
    let small : 2 * n < 2 ^ 32 = omega (arith, ints) in
    (omega arith, even_back u (2 ^ 32) n (omega arith))
zigzag32_back (negsuc n) u e fits =
    let small : 2 * n + 1 < 2 ^ 32 = omega (arith, ints) in
    (omega arith, odd_back u (2 ^ 32) n (omega arith))

zigzag64_back : (v : ℤ) (u : ℕ) → u ≡ zigzag_of v → FitsSigned w64 v
    → (u < 2 ^ 64) × (unzigzag (u % 2 ^ 64) ≡ v)
zigzag64_back (pos n) u e fits =
    let small : 2 * n < 2 ^ 64 = omega (arith, ints) in
    (omega arith, even_back u (2 ^ 64) n (omega arith))
zigzag64_back (negsuc n) u e fits =
    let small : 2 * n + 1 < 2 ^ 64 = omega (arith, ints) in
    (omega arith, odd_back u (2 ^ 64) n (omega arith))

-- ---- payloads

abbrev limit : Word → ℕ
limit varint = 2 ^ 64
limit eight_bytes = 2 ^ 64
limit four_bytes = 2 ^ 32

word_again : (word : Word) (u : ℕ) (bs rest : List ℕ) → SaysWord word u bs → u < limit word
    → word_at word (bs ++ rest) ≡ Ok (u, rest)
word_again varint u bs rest says lt = varint_again bs u rest lt says
word_again eight_bytes u bs rest says lt = rw says (eight_again u rest lt)
word_again four_bytes u bs rest says lt = rw says (four_again u rest lt)

whole_again : (inner : Inner) (name : Option Text) (word : Word) (w : Width) (code : Code) (v : ℤ)
    (u : ℕ) (bs rest : List ℕ) → SaysWord word u bs → (u < limit word) × (decoded w code u ≡ v)
    → payload_at inner name (whole word w code) (bs ++ rest) ≡ Ok (trees.number v, rest)
unfolding payload_at
whole_again inner name word w code v u bs rest says b =
    rw (word_again word u bs rest says b.0) (ap (λ (x : ℤ). Ok (trees.number x, rest)) b.1)

below64 : (u : ℕ) {A : Type 0} → (u < 2 ^ 32) × A → (u < 2 ^ 64) × A
below64 u b = let lt = b.0 in (omega arith, b.1)

converted_again : (inner : Inner) (name : Option Text) (k : Kind) (v : ℤ) (bs rest : List ℕ)
    → SaysNumber (shape_of_kind k) v bs → Converts (shape_of_kind k) v
    → payload_at inner name (shape_of_kind k) (bs ++ rest) ≡ Ok (trees.number v, rest)
converted_again inner name kinds.Int32 v bs rest says fits =
    whole_again inner name varint w32 twos_complement v says.0 bs rest says.2
    (extended_back v says.0 says.1 fits)
converted_again inner name kinds.Int64 v bs rest says fits =
    whole_again inner name varint w64 twos_complement v says.0 bs rest says.2
    (signed64_back v says.0 says.1 fits)
converted_again inner name kinds.Uint32 v bs rest says fits =
    whole_again inner name varint w32 unsigned v says.0 bs rest says.2
    (below64 says.0 (unsigned32_back v says.0 says.1 fits))
converted_again inner name kinds.Uint64 v bs rest says fits =
    whole_again inner name varint w64 unsigned v says.0 bs rest says.2
    (unsigned64_back v says.0 says.1 fits)
converted_again inner name kinds.Sint32 v bs rest says fits =
    whole_again inner name varint w32 zigzag v says.0 bs rest says.2
    (zigzag32_back v says.0 says.1 fits)
converted_again inner name kinds.Sint64 v bs rest says fits =
    whole_again inner name varint w64 zigzag v says.0 bs rest says.2
    (zigzag64_back v says.0 says.1 fits)
converted_again inner name kinds.Fixed32 v bs rest says fits =
    whole_again inner name four_bytes w32 unsigned v says.0 bs rest says.2
    (unsigned32_back v says.0 says.1 fits)
converted_again inner name kinds.Sfixed32 v bs rest says fits =
    whole_again inner name four_bytes w32 twos_complement v says.0 bs rest says.2
    (signed32_back v says.0 says.1 fits)
converted_again inner name kinds.Fixed64 v bs rest says fits =
    whole_again inner name eight_bytes w64 unsigned v says.0 bs rest says.2
    (unsigned64_back v says.0 says.1 fits)
converted_again inner name kinds.Sfixed64 v bs rest says fits =
    whole_again inner name eight_bytes w64 twos_complement v says.0 bs rest says.2
    (signed64_back v says.0 says.1 fits)
converted_again inner name kinds.Enum v bs rest says fits =
    whole_again inner name varint w32 twos_complement v says.0 bs rest says.2
    (extended_back v says.0 says.1 fits)
converted_again inner name kinds.Bool v bs rest says fits = absurd says
converted_again inner name kinds.String v bs rest says fits = absurd says
converted_again inner name kinds.Bytes v bs rest says fits = absurd says
converted_again inner name kinds.Message v bs rest says fits = absurd says

pub number_again : (inner : Inner) (name : Option Text) (k : Kind) (v : ℤ) (bs rest : List ℕ)
    → SaysNumber (shape_of_kind k) v bs → InRange (shape_of_kind k) v
    → payload_at inner name (shape_of_kind k) (bs ++ rest) ≡ Ok (trees.number v, rest)
number_again inner name k v bs rest says fits =
    converted_again inner name k v bs rest says (converts (shape_of_kind k) v fits)

pub truth_again : (inner : Inner) (name : Option Text) (s : KindShape) (b : Bool) (bs rest : List ℕ)
    → SaysTruth s b bs → payload_at inner name s (bs ++ rest) ≡ Ok (trees.truth b, rest)
unfolding payload_at
truth_again inner name truth true bs rest says = rw (varint_again bs 1 rest (omega arith) says) refl
truth_again inner name truth false bs rest says =
    rw (varint_again bs 0 rest (omega arith) says) refl
truth_again inner name (whole word w code) b bs rest says = absurd says
truth_again inner name text b bs rest says = absurd says
truth_again inner name octets b bs rest says = absurd says
truth_again inner name message b bs rest says = absurd says

pub bytes_again : (inner : Inner) (name : Option Text) (s : KindShape) (inside bs rest : List ℕ)
    → length inside < 2 ^ 64 → HasBytes s → IsText s inside → SaysDelimited inside bs
    → payload_at inner name s (bs ++ rest) ≡ Ok (trees.bytes inside, rest)
unfolding payload_at
bytes_again inner name text inside bs rest lt has is says =
    rw (delimited_again inside bs rest lt says, is_utf8-from_IsUtf8 inside is) refl
bytes_again inner name octets inside bs rest lt has is says =
    rw (delimited_again inside bs rest lt says) refl
bytes_again inner name (whole word w code) inside bs rest lt has is says = absurd has
bytes_again inner name truth inside bs rest lt has is says = absurd has
bytes_again inner name message inside bs rest lt has is says = absurd has

pub inside_again : (inner : Inner) (name : Option Text) (s : KindShape) (inside bs rest : List ℕ)
    (fs : List Field) → length inside < 2 ^ 64 → HasMessages s → SaysDelimited inside bs
    → inner name inside ≡ Ok fs
    → payload_at inner name s (bs ++ rest) ≡ Ok (trees.message (fields_of_list fs), rest)
unfolding payload_at
inside_again inner name message inside bs rest fs lt has says e =
    rw (delimited_again inside bs rest lt says, e) refl
inside_again inner name (whole word w code) inside bs rest fs lt has says e = absurd has
inside_again inner name truth inside bs rest fs lt has says e = absurd has
inside_again inner name text inside bs rest fs lt has says e = absurd has
inside_again inner name octets inside bs rest fs lt has says e = absurd has
