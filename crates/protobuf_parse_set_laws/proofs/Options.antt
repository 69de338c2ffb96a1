-- Options that were written: those that set a built-in one, and then the others.
use Rattle.std.proofs.Common.{◌≡◌, ℕ, ◌<◌, ◌^◌, ℤ, Bool, true, false, not, List, [], ◌∷◌, ◌++◌}
use Rattle.std.proofs.Common.{length, length-append, map, filter, flat_map, Option, Some, None, Ok}
use Rattle.std.proofs.Common.{refl, ap, ap₂, ◌∙◌, subst, arith}
use Rattle.std.specs.Prelude.{IfSome}
use Rattle.std.specs.List.{AllByRecursion}
use Rattle.std.specs.Int.{w32, w64, cast_unsigned}
use Rattle.std.specs.Int.RustNames.{FitsSigned}
use Rattle.std.proofs.lemmas.List.{append-nil, map-append}
use Rattle.std.proofs.lemmas.List.Elements.{filter-append}
use Rattle.protobuf_parse_records.specs.Views as views
use Rattle.protobuf_parse_records.specs.Views.{Content, Extent, WireRecord}
use Rattle.protobuf_parse_records.specs.Splitting.{records_of}
use Rattle.protobuf_parse_records.specs.Laws.{content_later, record_later}
use Rattle.protobuf_parse_records.proofs.WholeMessages.{records_are_joined, records_are_the_bytes}
use Rattle.protobuf_parse_descriptor_set.specs.Items.{bytes_of, choice, flag}
use Rattle.protobuf_parse_set_reader.specs.Answers.{Answer}
use Rattle.protobuf_parse_set_reader.specs.Values.{BodyView, body_in, body_of, inside_in, int_of}
use Rattle.protobuf_parse_set_reader.specs.Values.{last_one}
use Rattle.protobuf_parse_set_reader.specs.Values.{merged, merged_of, numbered}
use Rattle.protobuf_parse_set_reader.specs.OptionReading.{said_by, truth_said, value_said}
use Rattle.protobuf_parse_set_laws.specs.Kept.{AreOthers, options_back, unless_empty}
use Rattle.protobuf_parse_set_laws.proofs.Written.{Are, ContentIs, Held, IsPair, Pair, octets}
use Rattle.protobuf_parse_set_laws.proofs.Written.{read_at}
use Rattle.protobuf_parse_set_laws.proofs.Pieces.{AreHeld, are_numbers, of_number, pairs}
use Rattle.protobuf_parse_set_laws.proofs.Lines.{Line, LinesRead, a_choice, a_flag, chained}
use Rattle.protobuf_parse_set_laws.proofs.Lines.{flag_held, helds_of, int_held, line, lines_later}
use Rattle.protobuf_parse_set_laws.proofs.Lines.{lines_read, numbers_of, options_held, some_held}
use Rattle.protobuf_parse_set_laws.proofs.Lines.{some_options_held, some_piece, some_text}
use Rattle.protobuf_parse_set_laws.proofs.Lines.{text_held}
use Rattle.protobuf_parse_set_laws.proofs.Said.{inside_said, no_record, one_record}

-- ---- which records set a built-in option

-- What is held sets one, at that number.
abbrev pub Sets : (WireRecord → Bool) → ℕ → Held → Type 0
Sets sets m h = (r : WireRecord) → r.number ≡ m → ContentIs h r.content → sets r ≡ true

-- A line whose records set a built-in option.
pub record OptionLine (sets : WireRecord → Bool) : Type 0 where
  pub plain : Line
  pub known : AllByRecursion (Sets sets plain.number) plain.held

abbrev pub plain_lines : {sets : WireRecord → Bool} → List (OptionLine sets) → List Line
plain_lines {sets} ls = map (λ (l : OptionLine sets). l.plain) ls

abbrev SetPairs : (WireRecord → Bool) → List Pair → Type 0
SetPairs sets [] = Unit {0}
SetPairs sets (p ∷ ps) =
    ((r : WireRecord) → IsPair p r → sets r ≡ true) × SetPairs sets ps

set_append : (sets : WireRecord → Bool) (ps qs : List Pair) → SetPairs sets ps
    → SetPairs sets qs → SetPairs sets (ps ++ qs)
set_append sets [] qs a b = b
set_append sets (p ∷ ps) qs a b = (a.0, set_append sets ps qs a.1 b)

set_number : (sets : WireRecord → Bool) (m : ℕ) (hs : List Held)
    → AllByRecursion (Sets sets m) hs → SetPairs sets (of_number m hs)
set_number sets m [] all = tt
set_number sets m (h ∷ hs) all =
    (λ r is. all.0 r is.number is.holds.content, set_number sets m hs all.1)

set_lines : (sets : WireRecord → Bool) (ls : List (OptionLine sets))
    → SetPairs sets (pairs (numbers_of (plain_lines ls)) (helds_of (plain_lines ls)))
set_lines sets [] = tt
set_lines sets (l ∷ ls) =
    set_append sets (of_number l.plain.number l.plain.held) _
    (set_number sets l.plain.number l.plain.held l.known) (set_lines sets ls)

abbrev pub others_of : (WireRecord → Bool) → List WireRecord → List WireRecord
others_of sets rs = filter (λ (r : WireRecord). not (sets r)) rs

keep_first : (keep : WireRecord → Bool) (r : WireRecord) (rs : List WireRecord)
    → keep r ≡ true → filter keep (r ∷ rs) ≡ r ∷ filter keep rs
keep_first keep r rs e = rw e refl

leave_first : (keep : WireRecord → Bool) (r : WireRecord) (rs : List WireRecord)
    → keep r ≡ false → filter keep (r ∷ rs) ≡ filter keep rs
leave_first keep r rs e = rw e refl

known_kept : (sets : WireRecord → Bool) (ps : List Pair) (rs : List WireRecord)
    → SetPairs sets ps → Are ps rs → (filter sets rs ≡ rs) × (others_of sets rs ≡ [])
known_kept sets [] [] all are = (refl, refl)
known_kept sets [] (r ∷ rs) all are = absurd are
known_kept sets (p ∷ ps) [] all are = absurd are
known_kept sets (p ∷ ps) (r ∷ rs) all are =
    let e = all.0 r are.0 in
    let others = known_kept sets ps rs all.1 are.1 in (
      keep_first sets r rs e ∙ ap (λ z. r ∷ z) others.0,
      leave_first (λ (q : WireRecord). not (sets q)) r rs (ap not e) ∙ others.1,
    )

others_left : (sets : WireRecord → Bool) (rs : List WireRecord)
    → AllByRecursion (λ (r : WireRecord). sets r ≡ false) rs
    → (filter sets rs ≡ []) × (others_of sets rs ≡ rs)
others_left sets [] all = (refl, refl)
others_left sets (r ∷ rs) all =
    let others = others_left sets rs all.1 in (
      leave_first sets r rs all.0 ∙ others.0,
      keep_first (λ (q : WireRecord). not (sets q)) r rs (ap not all.0)
          ∙ ap (λ z. r ∷ z) others.1,
    )

-- Where a record stands doesn't matter.
abbrev pub IsSteady : (WireRecord → Bool) → Type 0
IsSteady sets = (by : ℕ) (r : WireRecord) → sets (record_later by r) ≡ sets r

other_later : (sets : WireRecord → Bool) → IsSteady sets → (by : ℕ) (rs : List WireRecord)
    → AllByRecursion (λ (r : WireRecord). sets r ≡ false) rs
    → AllByRecursion (λ (r : WireRecord). sets r ≡ false) (map (record_later by) rs)
other_later sets steady by [] all = tt
other_later sets steady by (r ∷ rs) all =
    (steady by r ∙ all.0, other_later sets steady by rs all.1)

same_bytes : (by : ℕ) (rs : List WireRecord)
    → flat_map (λ (r : WireRecord). r.whole.bytes) (map (record_later by) rs)
    ≡ flat_map (λ (r : WireRecord). r.whole.bytes) rs
same_bytes by [] = refl
same_bytes by (r ∷ rs) = ap (λ z. r.whole.bytes ++ z) (same_bytes by rs)

-- ---- an options message

-- An options message that was written, at some offset.
pub record OptionsRead (sets : WireRecord → Bool) (ls : List Line) (others : List ℕ) (start : ℕ)
    (bs : List ℕ) : Type 0 where
  pub records : List WireRecord
  pub read : body_of (record { start = start; bytes = bs })
      ≡ Ok (record { start = start; records = records })
  pub front : List WireRecord
  pub known : filter sets records ≡ front
  pub lines : LinesRead ls front
  pub custom : flat_map (λ (r : WireRecord). r.whole.bytes) (others_of sets records) ≡ others

pub options_read : (sets : WireRecord → Bool) (ls : List (OptionLine sets)) (others : List ℕ)
    → IsSteady sets → are_numbers (numbers_of (plain_lines ls)) ≡ true → AreOthers sets others
    → length (bytes_of (chained [] (plain_lines ls)) ++ others) < 2 ^ 64 → (start : ℕ)
    → OptionsRead sets (plain_lines ls) others start
    (bytes_of (chained [] (plain_lines ls)) ++ others)
unfolding body_of
options_read sets ls others steady numbers kept lt start =
    let bytes = bytes_of (chained [] (plain_lines ls)) in
    let by = length bytes in
    let built_in = lines_read (plain_lines ls) numbers
    (omega (arith, lt, length-append bytes others)) in
    let behind = map (record_later by) kept.records in
    let all : records_of (bytes ++ others) ≡ Ok (built_in.0 ++ behind) =
    records_are_joined bytes others built_in.0 built_in.1 ∙ rw kept.read refl in
    let front = map (record_later start) built_in.0 in
    let back = map (record_later start) behind in
    let here = lines_later start (plain_lines ls) built_in.0 built_in.2 in
    let first = known_kept sets _ front (set_lines sets ls) here.are in
    let last = others_left sets back (other_later sets steady start behind
    (other_later sets steady by kept.records kept.other)) in
    record {
      records = front ++ back;
      read = rw (read_at start (bytes ++ others) (built_in.0 ++ behind) all)
          (ap (λ z. Ok (record { start = start; records = z }))
          (map-append (record_later start) built_in.0 behind));
      front = front;
      known = filter-append sets front back
          ∙ ap₂ (λ x y. x ++ y) first.0 last.0 ∙ append-nil front;
      lines = here;
      custom = ap (flat_map (λ (r : WireRecord). r.whole.bytes))
          (filter-append (λ (r : WireRecord). not (sets r)) front back
          ∙ ap₂ (λ x y. x ++ y) first.1 last.1)
          ∙ same_bytes start behind ∙ same_bytes by kept.records
          ∙ (records_are_the_bytes (record { start = 0; bytes = others }) kept.records kept.read).0;
    }

-- Bytes of an options message say that, wherever they and the whole stand.
abbrev pub OptionsSay : {A : Type 0} → (BodyView → Answer A) → List ℕ → A → Type 0
OptionsSay of bs x = length bs < 2 ^ 64 → (start whole : ℕ)
    → (rs : List WireRecord)
    × (body_of (record { start = start; bytes = bs }) ≡ Ok (record { start = start; records = rs }))
    × (of (record { start = whole; records = rs }) ≡ Ok x)

one_merged : {A : Type 0} (of : BodyView → Answer A) (start : ℕ) (bs : List ℕ) (x : A)
    (r : WireRecord) → OptionsSay of bs x → length bs < 2 ^ 64
    → (s : Extent) × (inside_in r ≡ Ok s) × (s.bytes ≡ bs)
    → merged_of of start (r ∷ []) ≡ Ok (Some x)
unfolding body_in
one_merged of start bs x r says lt p =
    let s = p.0 in
    let said = says lt s.start start in
    let read : body_of s ≡ Ok (record { start = s.start; records = said.0 }) =
    ap (λ z. body_of (record { start = s.start; bytes = z })) p.2 ∙ said.1 in
    rw (p.1, read, append-nil said.0, said.2) refl

pub options_said : {A : Type 0} (of : BodyView → Answer A) (n : ℕ) (b : BodyView)
    (bytes : A → List ℕ) (o : Option A) → IfSome o (λ v. OptionsSay of (bytes v) v)
    → AreHeld (some_options_held bytes o) (numbered n b.records)
    → merged of n b ≡ Ok (options_back bytes o)
unfolding merged
options_said of n b bytes None says held = rw (no_record (numbered n b.records) held) refl
options_said of n b bytes (Some v) says held = by_bytes (bytes v) refl held
  where
    by_bytes : (bs : List ℕ) → bytes v ≡ bs → AreHeld (options_held bs) (numbered n b.records)
        → merged of n b ≡ Ok (unless_empty bs v)
    by_bytes [] e held = rw (no_record (numbered n b.records) held) refl
    by_bytes (c ∷ cs) e held =
        let p = one_record (octets (c ∷ cs)) (numbered n b.records) held in
        let inside = inside_said (c ∷ cs) p.0 p.2 in
        ap (merged_of of b.start) p.1
        ∙ one_merged of b.start (c ∷ cs) v p.0
        (subst (λ z. OptionsSay of z v) e says) p.2.fits inside

-- ---- kinds of options

sets_at : (sets : WireRecord → Bool) (m : ℕ) (c : Content) (r : WireRecord) → r.number ≡ m
    → r.content ≡ c
    → ((w : Extent) → sets (record { number = m; whole = w; content = c }) ≡ true)
    → sets r ≡ true
sets_at sets m c r number content known =
    ap₂ (λ n d. sets (record { number = n; whole = r.whole; content = d })) number content
    ∙ known r.whole

pub flag_known : (sets : WireRecord → Bool) (m : ℕ)
    → ((w : Extent) (u : ℕ)
    → sets (record { number = m; whole = w; content = views.varint u }) ≡ true)
    → (y : Option Bool) → AllByRecursion (Sets sets m) (some_held flag_held y)
flag_known sets m known None = tt
flag_known sets m known (Some b) =
    (λ r number content. sets_at sets m _ r number content (λ w. known w _), tt)

abbrev pub flag_line : {sets : WireRecord → Bool} (m : ℕ) (x : Option Bool)
    → ((w : Extent) (u : ℕ)
    → sets (record { number = m; whole = w; content = views.varint u }) ≡ true)
    → OptionLine sets
flag_line {sets} m x known = record {
  plain = line m (some_piece m (flag m) flag_held x (a_flag m));
  known = flag_known sets m known x;
}

pub text_known : (sets : WireRecord → Bool) (m : ℕ)
    → ((w s : Extent)
    → sets (record { number = m; whole = w; content = views.delimited s }) ≡ true)
    → (y : Option (List ℕ)) → AllByRecursion (Sets sets m) (text_held y)
text_known sets m known None = tt
text_known sets m known (Some t) =
    (λ r number content. sets_at sets m _ r number content.1 (λ w. known w content.0), tt)

abbrev pub text_line : {sets : WireRecord → Bool} (m : ℕ) (x : Option (List ℕ))
    → ((w s : Extent)
    → sets (record { number = m; whole = w; content = views.delimited s }) ≡ true)
    → OptionLine sets
text_line {sets} m x known =
    record { plain = line m (some_text m x); known = text_known sets m known x }

-- what a value of an enum holds
abbrev pub value_held : {A : Type 0} → (A → ℤ) → A → Held
value_held number a = int_held (number a)

pub value_known : {A : Type 0} (sets : WireRecord → Bool) (m : ℕ) (number : A → ℤ)
    → ((w : Extent) (a : A)
    → sets (record {
      number = m;
      whole = w;
      content = views.varint (cast_unsigned w64 (number a));
    }) ≡ true)
    → (y : Option A) → AllByRecursion (Sets sets m) (some_held (value_held number) y)
value_known sets m number known None = tt
value_known sets m number known (Some a) =
    (λ r is content. sets_at sets m _ r is content (λ w. known w a), tt)

abbrev pub value_line : {A : Type 0} {sets : WireRecord → Bool} (m : ℕ) (number : A → ℤ)
    → ((a : A) → FitsSigned w32 (number a)) → (x : Option A)
    → ((w : Extent) (a : A)
    → sets (record {
      number = m;
      whole = w;
      content = views.varint (cast_unsigned w64 (number a));
    }) ≡ true)
    → OptionLine sets
value_line {A} {sets} m number fits x known = record {
  plain = line m (some_piece m (λ a. choice m (number a)) (value_held number) x
      (λ a. a_choice m (number a) (fits a)));
  known = value_known sets m number known x;
}

-- ---- what they say

truth_of_flag : (b : Bool) (r : WireRecord) → ContentIs (flag_held b) r.content
    → truth_said r.content ≡ Some b
truth_of_flag true r content = rw content refl
truth_of_flag false r content = rw content refl

pub flag_option_said : (n : ℕ) (rs : List WireRecord) (x : Option Bool)
    → AreHeld (some_held flag_held x) (numbered n rs)
    → said_by truth_said (last_one (numbered n rs)) ≡ x
flag_option_said n rs None held = rw (no_record (numbered n rs) held) refl
flag_option_said n rs (Some b) held =
    let p = one_record (flag_held b) (numbered n rs) held in
    rw p.1 (truth_of_flag b p.0 p.2.content)

pub value_option_said : {A : Type 0} (of : ℤ → Option A) (number : A → ℤ)
    → ((a : A) → of (int_of (cast_unsigned w64 (number a))) ≡ Some a)
    → (n : ℕ) (rs : List WireRecord) (x : Option A)
    → AreHeld (some_held (value_held number) x) (numbered n rs)
    → said_by (value_said of) (last_one (numbered n rs)) ≡ x
value_option_said of number same n rs None held = rw (no_record (numbered n rs) held) refl
value_option_said of number same n rs (Some a) held =
    let p = one_record (value_held number a) (numbered n rs) held in
    rw p.1 (ap (value_said of) p.2.content ∙ same a)

-- ---- records elsewhere

pub truth_later : (by : ℕ) (c : Content) → truth_said (content_later by c) ≡ truth_said c
truth_later by (views.varint n) = refl
truth_later by (views.fixed64 n) = refl
truth_later by (views.fixed32 n) = refl
truth_later by (views.delimited s) = refl
truth_later by (views.group s) = refl

pub value_later : {A : Type 0} (of : ℤ → Option A) (by : ℕ) (c : Content)
    → value_said of (content_later by c) ≡ value_said of c
value_later of by (views.varint n) = refl
value_later of by (views.fixed64 n) = refl
value_later of by (views.fixed32 n) = refl
value_later of by (views.delimited s) = refl
value_later of by (views.group s) = refl
