-- Numbers and bytes with a field's number before them, as they are written, are the records that
-- are read.
use Rattle.std.proofs.Common.{◌≡◌, ℕ, zero, suc, ◌+◌, ◌*◌, ◌/◌, ◌%◌, ◌^◌, ◌<◌, List, [], ◌∷◌, ◌++◌}
use Rattle.std.proofs.Common.{length, take, drop, map, flat_map, Some, Ok, refl, sym, ap, ◌∙◌}
use Rattle.std.proofs.Common.{arith, length-append}
use Rattle.std.proofs.lemmas.Bool.{lt-ltb, le-ltb}
use Rattle.std.proofs.lemmas.List.{append-nil, take_all}
use Rattle.protobuf_parse_records.specs.declared.wire.WireType.{WireType}
use Rattle.protobuf_parse_records.specs.declared.wire.WireType.TheVariants as wire
use Rattle.protobuf_parse_records.specs.Views as views
use Rattle.protobuf_parse_records.specs.Views.{Content, Extent, WireRecord}
use Rattle.protobuf_parse_records.specs.Wire.{behind, bytes_at, delimited_at, tag_at, up_to}
use Rattle.protobuf_parse_records.specs.Wire.{wire_type}
use Rattle.protobuf_parse_records.specs.Splitting.{payload_at, record_at, records_in, records_of}
use Rattle.protobuf_parse_records.specs.Splitting.{records_within}
use Rattle.protobuf_parse_records.specs.Laws.{content_later, record_later, records_later}
use Rattle.protobuf_parse_records.proofs.Later.{offsets_count_on}
use Rattle.protobuf_parse_records.proofs.WholeMessages.{no_bytes, records_are_joined}
use Rattle.protobuf_parse_wire.specs.Encoded.{delimited, varint_of}
use Rattle.protobuf_parse_set_laws.proofs.Varints.{some_varint, varint_again}

-- ---- what is written

-- a number or bytes
pub data Held : Type 0 where
  word : ℕ → Held
  octets : List ℕ → Held

-- a field's number, and what it holds
pub record Pair : Type 0 where
  pub number : ℕ
  pub held : Held

-- its bytes
abbrev pub held_bytes : ℕ → Held → List ℕ
held_bytes n (word u) = varint_of (n * 8) ++ varint_of u
held_bytes n (octets t) = varint_of (n * 8 + 2) ++ delimited t

-- those of a pair
abbrev pub pair_bytes : Pair → List ℕ
pair_bytes p = held_bytes p.number p.held

-- all bytes
unfoldable pub pairs_bytes : List Pair → List ℕ
pairs_bytes ps = flat_map pair_bytes ps

-- A number has 64 bits, and so has a length.
abbrev pub HeldFits : Held → Type 0
HeldFits (word u) = u < 2 ^ 64
HeldFits (octets t) = length t < 2 ^ 64

-- A pair can be read.
pub record PairFits (p : Pair) : Type 0 where
  pub some : 0 < p.number
  pub few : p.number < 2 ^ 29
  pub held : HeldFits p.held

-- each can
abbrev pub AllFit : List Pair → Type 0
AllFit [] = Unit {0}
AllFit (p ∷ ps) = PairFits p × AllFit ps

-- ---- what is read

-- A payload is what was held; where it stands is not said.
abbrev pub ContentIs : Held → Content → Type 0
ContentIs (word u) c = c ≡ views.varint u
ContentIs (octets t) c = (s : Extent) × (c ≡ views.delimited s) × (s.bytes ≡ t)

-- A record holds it.
pub record Holds (h : Held) (r : WireRecord) : Type 0 where
  pub content : ContentIs h r.content
  pub fits : HeldFits h

-- A record is a pair.
pub record IsPair (p : Pair) (r : WireRecord) : Type 0 where
  pub number : r.number ≡ p.number
  pub holds : Holds p.held r

-- Records are pairs, one by one.
abbrev pub Are : List Pair → List WireRecord → Type 0
Are [] [] = Unit {0}
Are [] (r ∷ rs) = ⊥
Are (p ∷ ps) [] = ⊥
Are (p ∷ ps) (r ∷ rs) = IsPair p r × Are ps rs

-- ---- one of them

tag_again : (start u n k : ℕ) (w : WireType) (rest : List ℕ) → u ≡ n * 8 + k → 0 < n → n < 2 ^ 29
    → k < 8 → wire_type k ≡ Some w
    → tag_at (record { start = start; bytes = varint_of u ++ rest })
    ≡ Ok ((n, w), behind (record { start = start; bytes = varint_of u ++ rest }) rest)
unfolding tag_at
tag_again start u n k w rest is some few lt known =
    let number : u / 8 ≡ n = omega arith in
    let low : u % 8 ≡ k = omega arith in
    rw (
      varint_again start u rest (omega arith),
      number,
      low,
      lt-ltb 0 n some,
      lt-ltb n (2 ^ 29) few,
      known,
    ) refl

type_varint : wire_type 0 ≡ Some wire.Varint
unfolding wire_type
type_varint = refl

type_delimited : wire_type 2 ≡ Some wire.Delimited
unfolding wire_type
type_delimited = refl

-- The record at the front, and that nothing stands behind it.
record OneRead (n : ℕ) (h : Held) (s : Extent) : Type 0 where
  found : WireRecord
  rest : Extent
  read : record_at s ≡ Ok (found, rest)
  last : rest.bytes ≡ []
  number : found.number ≡ n
  content : ContentIs h found.content

bytes_again : (s : Extent) (t : List ℕ) → s.bytes ≡ t
    → bytes_at (length t) s
    ≡ Ok (
      record { start = s.start; bytes = take (length t) s.bytes },
      behind s (drop (length t)
          s.bytes),
    )
unfolding bytes_at
bytes_again s t is = rw (is, le-ltb (length t) (length t) (omega arith)) refl

drop_all : (t : List ℕ) → drop (length t) t ≡ []
drop_all [] = refl
drop_all (b ∷ bs) = drop_all bs

one_read : (n : ℕ) (h : Held) → 0 < n → n < 2 ^ 29 → HeldFits h
    → OneRead n h (record { start = 0; bytes = held_bytes n h })
unfolding record_at payload_at delimited_at
one_read n (word u) some few fits =
    let bytes : held_bytes n (word u) ≡ varint_of (n * 8) ++ (varint_of u ++ []) =
    ap (λ z. varint_of (n * 8) ++ z) (sym (append-nil (varint_of u))) in
    let s : Extent = record { start = 0; bytes = varint_of (n * 8) ++ (varint_of u ++ []) } in
    let inner = behind s (varint_of u ++ []) in
    record {
      found = record {
        number = n;
        whole = up_to s (behind inner []);
        content = views.varint u;
      };
      rest = behind inner [];
      read = rw (
        bytes,
        tag_again 0 (n * 8) n 0 wire.Varint (varint_of u ++ []) (omega arith) some few
            (omega arith) type_varint,
        varint_again inner.start u [] fits,
      ) refl;
      last = refl;
      number = refl;
      content = refl;
    }
one_read n (octets t) some few fits =
    let s : Extent = record { start = 0; bytes = varint_of (n * 8 + 2) ++ delimited t } in
    let inner = behind s (delimited t) in
    let last = behind inner t in
    record {
      found = record {
        number = n;
        whole = up_to s (behind last (drop (length t) t));
        content = views.delimited (record { start = last.start; bytes = take (length t) t });
      };
      rest = behind last (drop (length t) t);
      read = rw (
        tag_again 0 (n * 8 + 2) n 2 wire.Delimited (delimited t) refl some few (omega arith)
            type_delimited,
        varint_again inner.start (length t) t fits,
        bytes_again last t refl,
      ) refl;
      last = drop_all t;
      number = refl;
      content = (
        record { start = last.start; bytes = take (length t) t },
        refl,
        take_all (length t) t (omega arith),
      );
    }

alone : (most start : ℕ) (bs : List ℕ) (r : WireRecord) (rest : Extent) → 0 < most
    → 0 < length bs → record_at (record { start = start; bytes = bs }) ≡ Ok (r, rest)
    → rest.bytes ≡ [] → records_within most start bs ≡ Ok (r ∷ [])
unfolding records_within
alone zero start bs r rest more some e last = absurd (omega arith)
alone (suc most) start [] r rest more some e last = absurd (omega arith)
alone (suc most) start (b ∷ bs) r rest more some e last =
    rw (e, last) refl

some_held : (n : ℕ) (h : Held) → 0 < length (held_bytes n h)
some_held n (word u) =
    omega (arith, some_varint (n * 8), length-append (varint_of (n * 8)) (varint_of u))
some_held n (octets t) =
    omega (
      arith,
      some_varint (n * 8 + 2),
      length-append (varint_of (n * 8 + 2)) (delimited t),
    )

-- A pair is one record.
one_record : (p : Pair) → PairFits p
    → (r : WireRecord) × (records_of (pair_bytes p) ≡ Ok (r ∷ [])) × IsPair p r
one_record p fits =
    let one = one_read p.number p.held fits.some fits.few fits.held in (
      one.found,
      alone (length (pair_bytes p)) 0 (pair_bytes p) one.found one.rest
          (some_held p.number p.held) (some_held p.number p.held) one.read one.last,
      record {
        number = one.number;
        holds = record { content = one.content; fits = fits.held };
      },
    )

-- ---- all of them

content_later_is : (by : ℕ) (h : Held) (c : Content) → ContentIs h c
    → ContentIs h (content_later by c)
content_later_is by (word u) c is = rw is refl
content_later_is by (octets t) c is =
    (record { start = is.0.start + by; bytes = is.0.bytes }, rw is.1 refl, is.2)

-- wherever they stand
pub are_later : (by : ℕ) (ps : List Pair) (rs : List WireRecord) → Are ps rs
    → Are ps (map (record_later by) rs)
are_later by [] [] are = tt
are_later by [] (r ∷ rs) are = absurd are
are_later by (p ∷ ps) [] are = absurd are
are_later by (p ∷ ps) (r ∷ rs) are = (
  record {
    number = are.0.number;
    holds = record {
      content = content_later_is by p.held r.content are.0.holds.content;
      fits = are.0.holds.fits;
    };
  },
  are_later by ps rs are.1,
)

-- What is written is read.
pub pairs_are_read : (ps : List Pair) → AllFit ps
    → (rs : List WireRecord) × (records_of (pairs_bytes ps) ≡ Ok rs) × Are ps rs
unfolding pairs_bytes
pairs_are_read [] fits = ([], no_bytes 0 0, tt)
pairs_are_read (p ∷ ps) fits =
    let one = one_record p fits.0 in
    let others = pairs_are_read ps fits.1 in
    let by = length (pair_bytes p) in (
      one.0 ∷ map (record_later by) others.0,
      records_are_joined (pair_bytes p) (pairs_bytes ps) (one.0 ∷ []) one.1 ∙ rw others.1 refl,
      (one.2, are_later by ps others.0 others.2),
    )

-- The same at any offset.
pub read_at : (start : ℕ) (bs : List ℕ) (rs : List WireRecord) → records_of bs ≡ Ok rs
    → records_in (record { start = start; bytes = bs }) ≡ Ok (map (record_later start) rs)
read_at start bs rs e =
    let there : 0 + start ≡ start = omega arith in
    ap (λ (n : ℕ). records_in (record { start = n; bytes = bs })) (sym there)
    ∙ offsets_count_on start (record { start = 0; bytes = bs })
    ∙ ap (records_later start) e
