-- Writing at the end, part by part.
use Rattle.std.proofs.Common.{◌≡◌, ℕ, ◌+◌, ◌*◌, ◌/◌, ◌%◌, ◌<◌, ◌≤◌, List, [], ◌∷◌, ◌++◌, sym, ap}
use Rattle.std.proofs.Common.{subst, ◌∙◌, append_assoc}
use Rattle.std.proofs.Common.{Result, Ok, Err}
use Rattle.std.specs.Result.{OnErr}
use Rattle.std.proofs.lemmas.List.{append-nil}
use Rattle.protobuf_parse_wire.specs.declared.kind.Kind.{Kind}
use Rattle.protobuf_parse_wire.specs.Trees.{EntryTree, Entries, no_entries, entry}
use Rattle.protobuf_parse_wire.specs.Kinds.{shape_of_kind, wire_type}
use Rattle.protobuf_parse_wire.specs.Wire.{IsVarint}
use Rattle.protobuf_parse_wire.specs.Writing.{AreWritable}
use Rattle.protobuf_parse_wire.specs.Encoded.{BeginsWith, varint_of, payload, encoded}
use Rattle.protobuf_parse_wire.proofs.Appending.{longer, last}
use Rattle.protobuf_parse_wire.proofs.Encoded.{varint_unique, varint_says}

-- ---- what stood there still does

pub begins_self : (xs : List ℕ) → BeginsWith xs xs
begins_self xs = ([], sym (append-nil xs))

pub begins_behind : (old xs new : List ℕ) → new ≡ old ++ xs → BeginsWith old new
begins_behind old xs new is = (xs, is)

pub begins_more : (old out new : List ℕ) → BeginsWith old out → BeginsWith out new
    → BeginsWith old new
begins_more old out new a b =
    (a.0 ++ b.0, b.1 ∙ ap (λ (x : List ℕ). x ++ b.0) a.1 ∙ append_assoc old a.0 b.0)

-- whatever was refused
pub if_refused : {T E P : Type 0} (r : Result T E) → P → OnErr r P
if_refused (Ok x) p = tt
if_refused (Err e) p = p

-- ---- bytes of a varint

-- one more byte
pub more : (n r byte : ℕ) (old out : List ℕ) → 128 ≤ r → byte ≡ r % 128 + 128
    → out ++ varint_of r ≡ old ++ varint_of n
    → (out ++ byte ∷ []) ++ varint_of (r / 128) ≡ old ++ varint_of n
more n r byte old out many is so_far =
    let next : byte ∷ varint_of (r / 128)
    ≡ varint_of r = varint_unique (byte ∷ varint_of (r / 128)) r
    (longer byte r (varint_of (r / 128)) many is (varint_says (r / 128))) in
    append_assoc out (byte ∷ []) (varint_of (r / 128)) ∙ ap (λ (xs : List ℕ). out ++ xs) next
    ∙ so_far

-- the last byte
pub ended : (n r byte : ℕ) (old out : List ℕ) → r < 128 → byte ≡ r
    → out ++ varint_of r ≡ old ++ varint_of n → out ++ byte ∷ [] ≡ old ++ varint_of n
ended n r byte old out few is so_far =
    ap (λ (xs : List ℕ). out ++ xs)
    (varint_unique (byte ∷ []) r (subst (λ (b : ℕ). IsVarint (b ∷ []) r) (sym is) (last r few)))
    ∙ so_far

-- what is left can be written, and its bytes complete the list
pub record Completes (left full : Entries) (old out : List ℕ) : Type 0 where
  pub writable : AreWritable left
  pub so_far : out ++ encoded left ≡ old ++ encoded full

pub goes_on : (t n : ℕ) (k : Kind) (v : EntryTree) (rest full : Entries) (old out mid new : List ℕ)
    → Completes (entry n k v rest) full old out → t ≡ n * 8 + wire_type (shape_of_kind k)
    → mid ≡ out ++ varint_of t → new ≡ mid ++ payload (shape_of_kind k) v
    → Completes rest full old new
goes_on t n k v rest full old out mid new c is tag inside =
    let first = varint_of (n * 8 + wire_type (shape_of_kind k)) in
    let second = payload (shape_of_kind k) v in
    let parts : new ≡ (out ++ first) ++ second = inside
    ∙ ap (λ (x : List ℕ). x ++ second) (tag ∙ ap (λ (u : ℕ). out ++ varint_of u) is) in
    let together : new ++ encoded rest ≡ out
    ++ (first ++ (second ++ encoded rest)) = ap (λ (x : List ℕ). x ++ encoded rest) parts
    ∙ append_assoc (out ++ first) second (encoded rest)
    ∙ append_assoc out first (second ++ encoded rest) in
    record { writable = c.writable.1; so_far = together ∙ c.so_far }

pub is_done : (full : Entries) (old out : List ℕ) → Completes no_entries full old out
    → out ≡ old ++ encoded full
is_done full old out c = sym (append-nil out) ∙ c.so_far
