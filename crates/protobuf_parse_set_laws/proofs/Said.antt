-- What is said by fields that were written: a lemma a kind.
use Rattle.std.proofs.Common.{◌≡◌, ℕ, suc, ◌+◌, ◌<◌, ◌^◌, ◌%◌, ℤ, pos, negsuc, Bool, true, false}
use Rattle.std.proofs.Common.{List}
use Rattle.std.proofs.Common.{[], ◌∷◌, length, map, Option, Some, None, Ok, refl, ap}
use Rattle.std.proofs.Common.{◌∙◌, arith}
use Rattle.std.specs.Prelude.{IfSome}
use Rattle.std.specs.List.{AllByRecursion}
use Rattle.std.specs.Int.{w32, w64, cast_signed, cast_unsigned}
use Rattle.std.specs.Int.RustNames.{FitsSigned}
use Rattle.std.proofs.lemmas.Bool.{le-ltb}
use Rattle.std.proofs.lemmas.Int.{ints}
use Rattle.std.proofs.lemmas.List.{append-nil}
use Rattle.protobuf_parse_model.specs.Descriptors.{Text}
use Rattle.protobuf_parse_records.specs.Views.{Extent, WireRecord}
use Rattle.protobuf_parse_records.specs.Wire.{◌>>=◌}
use Rattle.protobuf_parse_set_reader.specs.declared.fault.SetFaultKind.{SetFaultKind}
use Rattle.protobuf_parse_set_reader.specs.Answers.{Answer}
use Rattle.protobuf_parse_set_reader.specs.Values.{BodyView, all_of, alone, body_in, body_of}
use Rattle.protobuf_parse_set_reader.specs.Values.{choice_in, flag_in, flag_or_false, inside_in}
use Rattle.protobuf_parse_set_reader.specs.Values.{int_in, int_of, int_or_zero, needed_text}
use Rattle.protobuf_parse_set_reader.specs.Values.{number_in, numbered, one, part_in, parts}
use Rattle.protobuf_parse_set_reader.specs.Values.{ints_in, packed_or, text_in, texts}
use Rattle.protobuf_parse_set_reader.specs.Values.{bytes_inside, merged_bytes}
use Rattle.protobuf_parse_set_reader.specs.Values.{ints as ints_of}
use Rattle.protobuf_parse_set_laws.proofs.Written.{Held, Holds, octets, word}
use Rattle.protobuf_parse_set_laws.proofs.Pieces.{AreHeld}
use Rattle.protobuf_parse_set_laws.proofs.Lines.{flag_held, if_held, int_held, some_held, text_held}
use Rattle.protobuf_parse_set_laws.specs.Kept.{IsText}

-- ---- one record

pub inside_said : (t : List ℕ) (r : WireRecord) → Holds (octets t) r
    → (s : Extent) × (inside_in r ≡ Ok s) × (s.bytes ≡ t)
unfolding inside_in
inside_said t r h = (h.content.0, rw h.content.1 refl, h.content.2)

record_text : (t : Text) (r : WireRecord) → IsText t → Holds (octets t) r → text_in r ≡ Ok t
unfolding text_in
record_text t r utf8 h =
    let p = inside_said t r h in
    rw (p.1, p.2, utf8) refl

record_number : (u : ℕ) (r : WireRecord) → Holds (word u) r → number_in r ≡ Ok u
unfolding number_in
record_number u r h = rw h.content refl

low_half : (x n : ℕ) → x + suc n ≡ 2 ^ 32 → n < 2 ^ 31 → cast_signed w32 x ≡ negsuc n
low_half x n e lt =
    rw (le-ltb x (2 ^ 31) (omega arith)) (ap (λ (m : ℕ). negsuc m) (omega arith))

-- an int32 is the low half of its 64 bits
pub int_back : (v : ℤ) → FitsSigned w32 v → int_of (cast_unsigned w64 v) ≡ v
int_back (pos n) fits = omega (arith, ints)
int_back (negsuc n) fits =
    low_half (cast_unsigned w64 (negsuc n) % 2 ^ 32) n (omega (arith, ints)) (omega (arith, ints))

record_int : (v : ℤ) (r : WireRecord) → FitsSigned w32 v → Holds (int_held v) r → int_in r ≡ Ok v
unfolding int_in
record_int v r fits h = rw (record_number _ r h) (ap (λ z. Ok z) (int_back v fits))

record_flag : (b : Bool) (r : WireRecord) → Holds (flag_held b) r → flag_in r ≡ Ok b
unfolding flag_in
record_flag true r h = rw (record_number _ r h) refl
record_flag false r h = rw (record_number _ r h) refl

-- ---- one field

pub one_record : (h : Held) (rs : List WireRecord) → AreHeld (h ∷ []) rs
    → (r : WireRecord) × (rs ≡ r ∷ []) × Holds h r
one_record h [] held = absurd held
one_record h (r ∷ []) held = (r, refl, held.0)
one_record h (r ∷ q ∷ rs) held = absurd held.1

pub no_record : (rs : List WireRecord) → AreHeld [] rs → rs ≡ []
no_record [] held = refl
no_record (r ∷ rs) held = absurd held

one_said : {A : Type 0} (said : WireRecord → Answer A) (n : ℕ) (b : BodyView) (h : Held) (x : A)
    → AreHeld (h ∷ []) (numbered n b.records) → ((r : WireRecord) → Holds h r → said r ≡ Ok x)
    → one said n b ≡ Ok (Some x)
unfolding one
one_said said n b h x held says =
    let p = one_record h (numbered n b.records) held in
    rw (p.1, says p.0 p.2) refl

none_said : {A : Type 0} (said : WireRecord → Answer A) (n : ℕ) (b : BodyView)
    → AreHeld [] (numbered n b.records) → one said n b ≡ Ok None
unfolding one
none_said said n b held = rw (no_record (numbered n b.records) held) refl

pub text_said : (n : ℕ) (b : BodyView) (t : Option Text) → IfSome t IsText
    → AreHeld (text_held t) (numbered n b.records) → one text_in n b ≡ Ok t
text_said n b None utf8 held = none_said text_in n b held
text_said n b (Some t) utf8 held =
    one_said text_in n b (octets t) t held (λ r h. record_text t r utf8 h)

pub needed_said : (missing : SetFaultKind) (n : ℕ) (b : BodyView) (t : Text) → IsText t
    → AreHeld (octets t ∷ []) (numbered n b.records) → needed_text missing n b ≡ Ok t
unfolding needed_text
needed_said missing n b t utf8 held = rw (text_said n b (Some t) utf8 held) refl

pub int_said : (n : ℕ) (b : BodyView) (v : ℤ) → FitsSigned w32 v
    → AreHeld (int_held v ∷ []) (numbered n b.records) → int_or_zero n b ≡ Ok v
unfolding int_or_zero
int_said n b v fits held =
    rw (one_said int_in n b (int_held v) v held (λ r h. record_int v r fits h)) refl

pub some_int_said : (n : ℕ) (b : BodyView) (v : Option ℤ) → IfSome v (FitsSigned w32)
    → AreHeld (some_held int_held v) (numbered n b.records) → one int_in n b ≡ Ok v
some_int_said n b None fits held = none_said int_in n b held
some_int_said n b (Some v) fits held =
    one_said int_in n b (int_held v) v held (λ r h. record_int v r fits h)

pub choice_said : {A : Type 0} (unknown : SetFaultKind) (of : ℤ → Option A) (n : ℕ) (b : BodyView)
    (v : ℤ) (x : A) → FitsSigned w32 v → of v ≡ Some x
    → AreHeld (int_held v ∷ []) (numbered n b.records)
    → one (choice_in unknown of) n b ≡ Ok (Some x)
unfolding choice_in
choice_said unknown of n b v x fits is held =
    one_said (choice_in unknown of) n b (int_held v) x held
    (λ r h. rw (record_int v r fits h, is) refl)

pub flag_said : (n : ℕ) (b : BodyView) (x : Bool) → AreHeld (if_held x) (numbered n b.records)
    → flag_or_false n b ≡ Ok x
unfolding flag_or_false
flag_said n b true held =
    rw (one_said flag_in n b (flag_held true) true held (λ r h. record_flag true r h)) refl
flag_said n b false held = rw (none_said flag_in n b held) refl

-- ---- lists

all_texts : (ts : List Text) (rs : List WireRecord) → AllByRecursion IsText ts
    → AreHeld (map octets ts) rs → all_of (alone text_in) rs ≡ Ok ts
all_texts [] [] utf8 held = refl
all_texts [] (r ∷ rs) utf8 held = absurd held
all_texts (t ∷ ts) [] utf8 held = absurd held
all_texts (t ∷ ts) (r ∷ rs) utf8 held =
    rw (record_text t r utf8.0 held.0, all_texts ts rs utf8.1 held.1) refl

pub texts_said : (n : ℕ) (b : BodyView) (ts : List Text) → AllByRecursion IsText ts
    → AreHeld (map octets ts) (numbered n b.records) → texts n b ≡ Ok ts
texts_said n b ts utf8 held = all_texts ts (numbered n b.records) utf8 held

record_ints : (v : ℤ) (r : WireRecord) → FitsSigned w32 v → Holds (int_held v) r
    → ints_in r ≡ Ok (v ∷ [])
unfolding ints_in
record_ints v r fits h =
    ap (λ c. packed_or c (alone int_in r)) h.content ∙ rw (record_int v r fits h) refl

all_ints : (vs : List ℤ) (rs : List WireRecord) → AllByRecursion (FitsSigned w32) vs
    → AreHeld (map int_held vs) rs → all_of ints_in rs ≡ Ok vs
all_ints [] [] fits held = refl
all_ints [] (r ∷ rs) fits held = absurd held
all_ints (v ∷ vs) [] fits held = absurd held
all_ints (v ∷ vs) (r ∷ rs) fits held =
    rw (record_ints v r fits.0 held.0, all_ints vs rs fits.1 held.1) refl

pub ints_said : (n : ℕ) (b : BodyView) (vs : List ℤ) → AllByRecursion (FitsSigned w32) vs
    → AreHeld (map int_held vs) (numbered n b.records) → ints_of n b ≡ Ok vs
ints_said n b vs fits held = all_ints vs (numbered n b.records) fits held

-- ---- messages

-- Bytes of a message say that, wherever they stand.
abbrev pub Says : {A : Type 0} → (BodyView → Answer A) → List ℕ → A → Type 0
Says of bs x = length bs < 2 ^ 64 → (start : ℕ)
    → (body_of (record { start = start; bytes = bs }) >>= of) ≡ Ok x

record_part : {A : Type 0} (of : BodyView → Answer A) (bs : List ℕ) (x : A) (r : WireRecord)
    → Says of bs x → Holds (octets bs) r → part_in of r ≡ Ok x
unfolding part_in body_in
record_part of bs x r says h =
    let p = inside_said bs r h in
    let s = p.0 in
    let e : (body_of s >>= of) ≡ Ok x =
    ap (λ z. body_of (record { start = s.start; bytes = z }) >>= of) p.2 ∙ says h.fits s.start in
    rw p.1 e

all_parts : {X A : Type 0} (of : BodyView → Answer A) (bytes : X → List ℕ) (value : X → A)
    (xs : List X) (rs : List WireRecord) → AllByRecursion (λ x. Says of (bytes x) (value x)) xs
    → AreHeld (map (λ x. octets (bytes x)) xs) rs
    → all_of (alone (part_in of)) rs ≡ Ok (map value xs)
all_parts of bytes value [] [] says held = refl
all_parts of bytes value [] (r ∷ rs) says held = absurd held
all_parts of bytes value (x ∷ xs) [] says held = absurd held
all_parts of bytes value (x ∷ xs) (r ∷ rs) says held =
    rw (
      record_part of (bytes x) (value x) r says.0 held.0,
      all_parts of bytes value xs rs says.1 held.1,
    ) refl

pub parts_said : {X A : Type 0} (of : BodyView → Answer A) (n : ℕ) (b : BodyView)
    (bytes : X → List ℕ) (value : X → A) (xs : List X)
    → AllByRecursion (λ x. Says of (bytes x) (value x)) xs
    → AreHeld (map (λ x. octets (bytes x)) xs) (numbered n b.records)
    → parts of n b ≡ Ok (map value xs)
parts_said of n b bytes value xs says held =
    all_parts of bytes value xs (numbered n b.records) says held

-- ---- messages as bytes

record_bytes : (t : List ℕ) (r : WireRecord) → Holds (octets t) r → bytes_inside r ≡ Ok t
record_bytes t r h =
    let p = inside_said t r h in
    rw p.1 (ap (λ z. Ok z) p.2)

pub bytes_said : (n : ℕ) (b : BodyView) (t : Option (List ℕ))
    → AreHeld (text_held t) (numbered n b.records) → merged_bytes n b ≡ Ok t
unfolding merged_bytes
bytes_said n b None held = rw (no_record (numbered n b.records) held) refl
bytes_said n b (Some t) held =
    let p = one_record (octets t) (numbered n b.records) held in
    rw (p.1, record_bytes t p.0 p.2) (ap (λ z. Ok (Some z)) (append-nil t))
