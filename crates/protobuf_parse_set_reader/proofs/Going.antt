-- Loops over all records of a message for those with a number: how far they have come, and where
-- they stop.
use Rattle.std.proofs.Common.{◌≡◌, ℕ, ◌+◌, ◌<◌, ◌≤◌, List, [], ◌∷◌, ◌++◌, length, get_or, take}
use Rattle.std.proofs.Common.{drop}
use Rattle.std.proofs.Common.{map, filter, Bool, true, false, Option, Some, None, is_some, Ok, refl}
use Rattle.std.proofs.Common.{sym, ap}
use Rattle.std.proofs.Common.{◌∙◌, append_assoc, ◌==◌}
use Rattle.std.proofs.lemmas.List.{append-nil, map-append, take_all, take_more, take-append-drop}
use Rattle.std.proofs.lemmas.List.Elements.{filter-append}
use Rattle.protobuf_parse_records.specs.Views.{WireRecord, record_view}
use Rattle.protobuf_parse_records.specs.declared.wire.Record.{Record}
use Rattle.protobuf_parse_set_reader.specs.declared.fault.SetError.{SetError}
use Rattle.protobuf_parse_set_reader.specs.declared.fault.SetError.TheVariants as error
use Rattle.protobuf_parse_set_reader.specs.Answers.{Answer, Fails}
use Rattle.protobuf_parse_set_reader.specs.Values.{BodyView, all_of, last_of, last_one, merged}
use Rattle.protobuf_parse_set_reader.specs.Values.{bytes_merged, merged_bytes, merged_of}
use Rattle.protobuf_parse_set_reader.specs.Values.{numbered}
use Rattle.protobuf_parse_set_reader.specs.Bodies.{record_seen}
use Rattle.protobuf_parse_set_reader.proofs.Steps.{all_joined, all_stopped}

-- ---- records that a test keeps, among the first ones

-- the first of some records
abbrev pub first_ones : List Record → ℕ → List WireRecord
first_ones rs k = map record_view (take k rs)

one_more : (keep : WireRecord → Bool) (rs : List Record) (k : ℕ) (r : Record)
    → k < length rs → r ≡ get_or rs k r
    → filter keep (first_ones rs (k + 1))
    ≡ filter keep (first_ones rs k) ++ filter keep (record_view r ∷ [])
one_more keep rs k r lt is =
    ap (λ z. filter keep (map record_view z)) (take_more rs k r lt)
    ∙ ap (filter keep) (map-append record_view (take k rs) (get_or rs k r ∷ []))
    ∙ ap (λ z. filter keep (first_ones rs k ++ record_view z ∷ [])) (sym is)
    ∙ filter-append keep (first_ones rs k) (record_view r ∷ [])

-- one more that is kept
pub kept : (keep : WireRecord → Bool) (rs : List Record) (k : ℕ) (r : Record)
    → k < length rs → r ≡ get_or rs k r → keep (record_view r) ≡ true
    → filter keep (first_ones rs (k + 1)) ≡ filter keep (first_ones rs k) ++ record_view r ∷ []
kept keep rs k r lt is hit = one_more keep rs k r lt is ∙ rw hit refl

-- one more that is not
pub left_out : (keep : WireRecord → Bool) (rs : List Record) (k : ℕ) (r : Record)
    → k < length rs → r ≡ get_or rs k r → keep (record_view r) ≡ false
    → filter keep (first_ones rs (k + 1)) ≡ filter keep (first_ones rs k)
left_out keep rs k r lt is miss = one_more keep rs k r lt is ∙ rw miss (append-nil _)

-- all records, where one of them is kept
whole : (keep : WireRecord → Bool) (rs : List Record) (k : ℕ) (r : Record)
    → k < length rs → r ≡ get_or rs k r → keep (record_view r) ≡ true
    → filter keep (map record_view rs)
    ≡ filter keep (first_ones rs k)
    ++ record_view r ∷ filter keep (map record_view (drop (k + 1) rs))
whole keep rs k r lt is hit =
    ap (λ z. filter keep (map record_view z)) (sym (take-append-drop (k + 1) rs))
    ∙ ap (filter keep) (map-append record_view (take (k + 1) rs) (drop (k + 1) rs))
    ∙ filter-append keep (first_ones rs (k + 1)) (map record_view (drop (k + 1) rs))
    ∙ ap (λ z. z ++ filter keep (map record_view (drop (k + 1) rs))) (kept keep rs k r lt is hit)
    ∙ append_assoc (filter keep (first_ones rs k)) (record_view r ∷ [])
    (filter keep (map record_view (drop (k + 1) rs)))

-- ---- what those with a number say

-- whether a record has it
abbrev pub has : ℕ → WireRecord → Bool
has n r = r.number == n

-- A record with the number says more.
pub says_more : {A : Type 0} (said : WireRecord → Answer (List A)) (n : ℕ) (rs : List Record)
    (k : ℕ) (r : Record) (front more : List A) → k < length rs → r ≡ get_or rs k r
    → has n (record_view r) ≡ true → all_of said (numbered n (first_ones rs k)) ≡ Ok front
    → said (record_view r) ≡ Ok more
    → all_of said (numbered n (first_ones rs (k + 1))) ≡ Ok (front ++ more)
says_more said n rs k r front more lt is hit so_far e =
    let alone : all_of said (record_view r ∷ []) ≡ Ok more =
    rw e (ap (λ z. Ok z) (append-nil more)) in
    ap (all_of said) (kept (has n) rs k r lt is hit) ∙ all_joined said _ _ front more so_far alone

-- A record with another number says nothing.
pub says_nothing : {A : Type 0} (said : WireRecord → Answer (List A)) (n : ℕ) (rs : List Record)
    (k : ℕ) (r : Record) (front : List A) → k < length rs → r ≡ get_or rs k r
    → has n (record_view r) ≡ false → all_of said (numbered n (first_ones rs k)) ≡ Ok front
    → all_of said (numbered n (first_ones rs (k + 1))) ≡ Ok front
says_nothing said n rs k r front lt is miss so_far =
    ap (all_of said) (left_out (has n) rs k r lt is miss) ∙ so_far

-- A record with the number fails, and so do all.
pub stops : {A : Type 0} (said : WireRecord → Answer (List A)) (n : ℕ) (rs : List Record)
    (k : ℕ) (r : Record) (front : List A) (e : SetError) → k < length rs → r ≡ get_or rs k r
    → has n (record_view r) ≡ true → all_of said (numbered n (first_ones rs k)) ≡ Ok front
    → Fails e (said (record_view r)) → Fails e (all_of said (numbered n (map record_view rs)))
stops said n rs k r front error.Memory lt is hit so_far fails = tt
stops said n rs k r front (error.Fault f) lt is hit so_far fails =
    ap (all_of said) (whole (has n) rs k r lt is hit)
    ∙ all_stopped said _ (record_view r) _ front f so_far fails

-- The loop has come to the end.
pub all_seen : {A : Type 0} (said : WireRecord → Answer (List A)) (n : ℕ) (rs : List Record)
    (k : ℕ) (front : List A) → length rs ≤ k
    → all_of said (numbered n (first_ones rs k)) ≡ Ok front
    → all_of said (numbered n (map record_view rs)) ≡ Ok front
all_seen said n rs k front le so_far =
    ap (λ z. all_of said (numbered n (map record_view z))) (sym (take_all k rs le)) ∙ so_far

-- ---- the last record

-- the last of some and one more
pub last_appended : (rs : List WireRecord) (r : WireRecord) → last_one (rs ++ r ∷ []) ≡ Some r
last_appended [] r = refl
last_appended (q ∷ []) r = refl
last_appended (q ∷ s ∷ rs) r = last_appended (s ∷ rs) r

-- where there is no last one there is none
pub none_last : (rs : List WireRecord) → last_one rs ≡ None → rs ≡ []
none_last [] e = refl
none_last (r ∷ []) e = absurd (cc)
none_last (r ∷ s ∷ rs) e = let none = none_last (s ∷ rs) e in absurd (cc)

-- Where no record has the number, nothing is said.
pub none_merged : {A : Type 0} (of : BodyView → Answer A) (n : ℕ) (b : BodyView)
    (last : Option Record) → record_seen last ≡ last_of n b → is_some last ≡ false
    → merged of n b ≡ Ok None
unfolding merged
none_merged of n b None e none = ap (merged_of of b.start) (none_last _ (sym e))
none_merged of n b (Some r) e none = absurd (cc)

-- The same of bytes.
pub no_bytes_merged : (n : ℕ) (b : BodyView) (last : Option Record)
    → record_seen last ≡ last_of n b → is_some last ≡ false → merged_bytes n b ≡ Ok None
unfolding merged_bytes
no_bytes_merged n b None e none = ap bytes_merged (none_last _ (sym e))
no_bytes_merged n b (Some r) e none = absurd (cc)
