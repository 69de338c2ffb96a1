-- The fields of a message, a line a field, and what is read where they are written.
use Rattle.std.proofs.Common.{◌≡◌, ℕ, ◌<◌, ◌^◌, ℤ, pos, negsuc, Bool, true, false, List, [], ◌∷◌}
use Rattle.std.proofs.Common.{◌++◌}
use Rattle.std.proofs.Common.{length, map, flat_map, Option, Some, None, Ok, refl, sym, ap, ap₂}
use Rattle.std.proofs.Common.{◌∙◌, subst, arith, append_assoc}
use Rattle.std.specs.Prelude.{if◌then◌else◌}
use Rattle.std.specs.List.{AllByRecursion}
use Rattle.std.specs.Int.{w32, w64, cast_unsigned}
use Rattle.std.specs.Int.RustNames.{FitsSigned}
use Rattle.std.proofs.lemmas.Int.{ints}
use Rattle.std.proofs.lemmas.List.{append-nil}
use Rattle.protobuf_parse_records.specs.Views.{WireRecord}
use Rattle.protobuf_parse_records.specs.Laws.{record_later}
use Rattle.protobuf_parse_records.specs.Splitting.{records_of}
use Rattle.protobuf_parse_descriptor_set.specs.Items.{Items, bytes_of, text, int, choice, flag}
use Rattle.protobuf_parse_descriptor_set.specs.Items.{part}
use Rattle.protobuf_parse_descriptor_set.specs.Items.{options, some, flag_if, whole}
use Rattle.protobuf_parse_descriptor_set.proofs.Joining.{bytes_of-append, choice_is, flag_is}
use Rattle.protobuf_parse_descriptor_set.proofs.Joining.{int_is}
use Rattle.protobuf_parse_descriptor_set.proofs.Joining.{part_is, text_is, whole_is}
use Rattle.protobuf_parse_set_reader.specs.Values.{BodyView, body_of, numbered}
use Rattle.protobuf_parse_set_laws.proofs.Written.{Are, Held, are_later, held_bytes, octets}
use Rattle.protobuf_parse_set_laws.proofs.Written.{pairs_are_read, pairs_bytes, read_at}
use Rattle.protobuf_parse_set_laws.proofs.Written.{word}
use Rattle.protobuf_parse_set_laws.proofs.Pieces.{AllWordsFit, AreHeld, WordsFit, are_found}
use Rattle.protobuf_parse_set_laws.proofs.Pieces.{are_numbers, found, of_number, pairs, pairs_fit}
use Rattle.protobuf_parse_set_laws.proofs.Pieces.{pairs_joined}

-- Some items have this number, and hold this.
pub record Piece (m : ℕ) (items : Items) (hs : List Held) : Type 0 where
  pub bytes : bytes_of items ≡ pairs_bytes (of_number m hs)
  pub words : WordsFit hs

-- ---- kinds of pieces

no_pairs : pairs_bytes [] ≡ []
unfolding pairs_bytes
no_pairs = refl

one_pair : (m : ℕ) (h : Held) → held_bytes m h ≡ pairs_bytes (of_number m (h ∷ []))
unfolding pairs_bytes
one_pair m h = sym (append-nil (held_bytes m h))

no_bytes_of : bytes_of [] ≡ pairs_bytes []
unfolding bytes_of pairs_bytes
no_bytes_of = refl

pub nothing : (m : ℕ) → Piece m [] []
nothing m = record { bytes = no_bytes_of; words = tt }

pub a_text : (m : ℕ) (t : List ℕ) → Piece m (text m t) (octets t ∷ [])
a_text m t = record { bytes = text_is m t ∙ one_pair m (octets t); words = (tt, tt) }

-- what an optional text holds
abbrev pub text_held : Option (List ℕ) → List Held
text_held None = []
text_held (Some t) = octets t ∷ []

pub some_text : (m : ℕ) (t : Option (List ℕ)) → Piece m (some (text m) t) (text_held t)
some_text m None = nothing m
some_text m (Some t) = a_text m t

-- what an int32 or a value of an enum holds
abbrev pub int_held : ℤ → Held
int_held v = word (cast_unsigned w64 v)

int_fits : (v : ℤ) → FitsSigned w32 v → cast_unsigned w64 v < 2 ^ 64
int_fits (pos n) fits = omega (arith, ints)
int_fits (negsuc n) fits = omega (arith, ints)

pub an_int : (m : ℕ) (v : ℤ) → FitsSigned w32 v → Piece m (int m v) (int_held v ∷ [])
an_int m v fits =
    record { bytes = int_is m v ∙ one_pair m (int_held v); words = (int_fits v fits, tt) }

pub a_choice : (m : ℕ) (v : ℤ) → FitsSigned w32 v → Piece m (choice m v) (int_held v ∷ [])
a_choice m v fits =
    record { bytes = choice_is m v ∙ one_pair m (int_held v); words = (int_fits v fits, tt) }

-- what a truth value holds
abbrev pub flag_held : Bool → Held
flag_held b = word (if b then 1 else 0)

flag_fits : (b : Bool) → (if b then 1 else 0) < 2 ^ 64
flag_fits true = omega arith
flag_fits false = omega arith

pub a_flag : (m : ℕ) (b : Bool) → Piece m (flag m b) (flag_held b ∷ [])
a_flag m b = record { bytes = flag_is m b ∙ one_pair m (flag_held b); words = (flag_fits b, tt) }

-- what one holds that is written where it is true
abbrev pub if_held : Bool → List Held
if_held true = flag_held true ∷ []
if_held false = []

pub a_flag_if : (m : ℕ) (b : Bool) → Piece m (flag_if m b) (if_held b)
a_flag_if m true = a_flag m true
a_flag_if m false = nothing m

-- what something optional holds
abbrev pub some_held : {A : Type 0} → (A → Held) → Option A → List Held
some_held held None = []
some_held held (Some x) = held x ∷ []

pub some_piece : {A : Type 0} (m : ℕ) (items : A → Items) (held : A → Held) (x : Option A)
    → ((a : A) → Piece m (items a) (held a ∷ [])) → Piece m (some items x) (some_held held x)
some_piece m items held None each = nothing m
some_piece m items held (Some x) each = each x

-- a message whose bytes are given
pub a_whole : (m : ℕ) (bs : List ℕ) → Piece m (whole m bs) (octets bs ∷ [])
a_whole m bs = record { bytes = whole_is m bs ∙ one_pair m (octets bs); words = (tt, tt) }

pub some_whole : (m : ℕ) (bs : Option (List ℕ)) → Piece m (some (whole m) bs) (text_held bs)
some_whole m None = nothing m
some_whole m (Some bs) = a_whole m bs

-- what an options message holds
abbrev pub options_held : List ℕ → List Held
options_held [] = []
options_held (b ∷ bs) = octets (b ∷ bs) ∷ []

pub an_options : (m : ℕ) (bs : List ℕ) → Piece m (options m bs) (options_held bs)
an_options m [] = nothing m
an_options m (b ∷ bs) = a_whole m (b ∷ bs)

-- what an optional one holds
abbrev pub some_options_held : {A : Type 0} → (A → List ℕ) → Option A → List Held
some_options_held bytes None = []
some_options_held bytes (Some o) = options_held (bytes o)

pub some_options : {A : Type 0} (m : ℕ) (bytes : A → List ℕ) (o : Option A)
    → Piece m (some (λ x. options m (bytes x)) o) (some_options_held bytes o)
some_options m bytes None = nothing m
some_options m bytes (Some o) = an_options m (bytes o)

pub each_piece : {X : Type 0} (m : ℕ) (items : X → Items) (held : X → Held) (xs : List X)
    → AllByRecursion (λ x. Piece m (items x) (held x ∷ [])) xs
    → Piece m (flat_map items xs) (map held xs)
unfolding pairs_bytes
each_piece m items held [] all = nothing m
each_piece m items held (x ∷ xs) all =
    let others = each_piece m items held xs all.1 in
    record {
      bytes = bytes_of-append (items x) (flat_map items xs)
          ∙ ap₂ (λ a b. a ++ b) (all.0.bytes ∙ append-nil (held_bytes m (held x))) others.bytes;
      words = (all.0.words.0, others.words);
    }

pub every : {X : Type 0} (P : X → Type 0) (xs : List X) → ((x : X) → P x) → AllByRecursion P xs
every P [] all = tt
every P (x ∷ xs) all = (all x, every P xs all)

-- messages
pub some_parts : {X : Type 0} (m : ℕ) (inside : X → Items) (xs : List X)
    → Piece m (flat_map (λ x. part m (inside x)) xs) (map (λ x. octets (bytes_of (inside x))) xs)
some_parts m inside xs =
    each_piece m (λ x. part m (inside x)) (λ x. octets (bytes_of (inside x))) xs
    (every _ xs (λ x. record {
      bytes = part_is m (inside x) ∙ one_pair m (octets (bytes_of (inside x)));
      words = (tt, tt);
    }))

pub some_texts : (m : ℕ) (ts : List (List ℕ)) → Piece m (flat_map (text m) ts) (map octets ts)
some_texts m ts = each_piece m (text m) octets ts (every _ ts (a_text m))

pub some_ints : (m : ℕ) (vs : List ℤ) → AllByRecursion (FitsSigned w32) vs
    → Piece m (flat_map (int m) vs) (map int_held vs)
some_ints m [] fits = nothing m
some_ints m (v ∷ vs) fits =
    each_piece m (int m) int_held (v ∷ vs) (all (v ∷ vs) fits)
  where
    all : (ws : List ℤ) → AllByRecursion (FitsSigned w32) ws
        → AllByRecursion (λ w. Piece m (int m w) (int_held w ∷ [])) ws
    all [] fits = tt
    all (w ∷ ws) fits = (an_int m w fits.0, all ws fits.1)

-- ---- a message

-- a field
pub record Line : Type 0 where
  pub number : ℕ
  pub items : Items
  pub held : List Held
  pub is : Piece number items held

abbrev pub line : (m : ℕ) {items : Items} {hs : List Held} → Piece m items hs → Line
line m {items} {hs} piece = record { number = m; items = items; held = hs; is = piece }

-- the items of all fields
abbrev pub chained : Items → List Line → Items
chained front [] = front
chained front (l ∷ ls) = chained (front ++ l.items) ls

abbrev pub numbers_of : List Line → List ℕ
numbers_of ls = map (λ (l : Line). l.number) ls

abbrev pub helds_of : List Line → List (List Held)
helds_of ls = map (λ (l : Line). l.held) ls

chained_bytes : (front : Items) (ls : List Line)
    → bytes_of (chained front ls)
    ≡ bytes_of front ++ pairs_bytes (pairs (numbers_of ls) (helds_of ls))
chained_bytes front [] =
    sym (append-nil (bytes_of front)) ∙ ap (λ z. bytes_of front ++ z) (sym no_pairs)
chained_bytes front (l ∷ ls) =
    let here = of_number l.number l.held in
    let others = pairs (numbers_of ls) (helds_of ls) in
    chained_bytes (front ++ l.items) ls
    ∙ ap (λ z. z ++ pairs_bytes others)
    (bytes_of-append front l.items ∙ ap (λ z. bytes_of front ++ z) l.is.bytes)
    ∙ append_assoc (bytes_of front) (pairs_bytes here) (pairs_bytes others)
    ∙ ap (λ z. bytes_of front ++ z) (sym (pairs_joined here others))

words_fit : (ls : List Line) → AllWordsFit (helds_of ls)
words_fit [] = tt
words_fit (l ∷ ls) = (l.is.words, words_fit ls)

lines_bytes : (ls : List Line)
    → bytes_of (chained [] ls) ≡ pairs_bytes (pairs (numbers_of ls) (helds_of ls))
unfolding bytes_of
lines_bytes ls = chained_bytes [] ls

-- The records of a message that was written, by their numbers.
pub record LinesRead (ls : List Line) (rs : List WireRecord) : Type 0 where
  pub at : (n : ℕ) → AreHeld (found n (numbers_of ls) (helds_of ls)) (numbered n rs)
  pub are : Are (pairs (numbers_of ls) (helds_of ls)) rs

pub lines_read : (ls : List Line) → are_numbers (numbers_of ls) ≡ true
    → length (bytes_of (chained [] ls)) < 2 ^ 64
    → (rs : List WireRecord) × (records_of (bytes_of (chained [] ls)) ≡ Ok rs) × LinesRead ls rs
lines_read ls numbers lt =
    let ps = pairs (numbers_of ls) (helds_of ls) in
    let same = lines_bytes ls in
    let read = pairs_are_read ps (pairs_fit (numbers_of ls) (helds_of ls) numbers (words_fit ls)
    (subst (λ (bs : List ℕ). length bs < 2 ^ 64) same lt)) in (
      read.0,
      ap records_of same ∙ read.1,
      record {
        at = λ n. are_found n (numbers_of ls) (helds_of ls) read.0 read.2;
        are = read.2;
      },
    )

-- the same at any offset
pub lines_later : (by : ℕ) (ls : List Line) (rs : List WireRecord) → LinesRead ls rs
    → LinesRead ls (map (record_later by) rs)
lines_later by ls rs read =
    let later = are_later by (pairs (numbers_of ls) (helds_of ls)) rs read.are in
    record {
      at = λ n. are_found n (numbers_of ls) (helds_of ls) (map (record_later by) rs) later;
      are = later;
    }

-- A message that was written, at some offset.
pub record MessageRead (ls : List Line) (start : ℕ) (bs : List ℕ) : Type 0 where
  pub body : BodyView
  pub read : body_of (record { start = start; bytes = bs }) ≡ Ok body
  pub lines : LinesRead ls body.records

pub message_read : (ls : List Line) → are_numbers (numbers_of ls) ≡ true
    → length (bytes_of (chained [] ls)) < 2 ^ 64 → (start : ℕ)
    → MessageRead ls start (bytes_of (chained [] ls))
unfolding body_of
message_read ls numbers lt start =
    let all = lines_read ls numbers lt in
    record {
      body = record { start = start; records = map (record_later start) all.0 };
      read = rw (read_at start (bytes_of (chained [] ls)) all.0 all.1) refl;
      lines = lines_later start ls all.0 all.2;
    }

-- what is held at a number, and nothing behind it
pub at_number : (ls : List Line) (rs : List WireRecord) (n : ℕ) (hs : List Held)
    → LinesRead ls rs → found n (numbers_of ls) (helds_of ls) ≡ hs ++ []
    → AreHeld hs (numbered n rs)
at_number ls rs n hs read e =
    subst (λ z. AreHeld z (numbered n rs)) (e ∙ append-nil hs) (read.at n)
