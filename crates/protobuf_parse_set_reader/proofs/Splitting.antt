-- Records of an options message, which a loop splits: those that set a built-in option, and the
-- bytes of the others.
use Rattle.std.proofs.Common.{◌≡◌, ℕ, ◌+◌, ◌<◌, List, [], ◌∷◌, ◌++◌, length, get_or, filter}
use Rattle.std.proofs.Common.{flat_map}
use Rattle.std.proofs.Common.{Bool, true, false, not, map, subst, ◌≤◌, sym, ap, ◌∙◌}
use Rattle.std.proofs.lemmas.List.{append-nil, take_all}
use Rattle.std.proofs.lemmas.Grind.{flat_map-append}
use Rattle.protobuf_parse_records.specs.Views.{WireRecord, record_view}
use Rattle.protobuf_parse_records.specs.declared.wire.Record.{Record}
use Rattle.protobuf_parse_set_reader.proofs.Going.{first_ones, kept, left_out}

-- all bytes of a record
abbrev pub bytes_of : WireRecord → List ℕ
bytes_of r = r.whole.bytes

-- Of the records these set a built-in option, and the others have these bytes.
pub record IsSplit (sets : WireRecord → Bool) (rs known : List WireRecord) (others : List ℕ)
    : Type 0 where
  pub are_known : known ≡ filter sets rs
  pub are_others : others ≡ flat_map bytes_of (filter (λ (r : WireRecord). not (sets r)) rs)

-- One more sets an option.
pub one_known : (sets : WireRecord → Bool) (rs : List Record) (k : ℕ) (r : Record)
    (known next : List WireRecord) (others : List ℕ) → k < length rs → r ≡ get_or rs k r
    → sets (record_view r) ≡ true → next ≡ known ++ record_view r ∷ []
    → IsSplit sets (first_ones rs k) known others
    → IsSplit sets (first_ones rs (k + 1)) next others
one_known sets rs k r known next others lt is hit more split = record {
  are_known = more ∙ ap (λ z. z ++ record_view r ∷ []) split.are_known
      ∙ sym (kept sets rs k r lt is hit);
  are_others = split.are_others
      ∙ sym (ap (flat_map bytes_of)
      (left_out (λ (q : WireRecord). not (sets q)) rs k r lt is (ap not hit)));
}

-- One more does not.
pub one_other : (sets : WireRecord → Bool) (rs : List Record) (k : ℕ) (r : Record)
    (known : List WireRecord) (others next : List ℕ) → k < length rs → r ≡ get_or rs k r
    → sets (record_view r) ≡ false → next ≡ others ++ bytes_of (record_view r)
    → IsSplit sets (first_ones rs k) known others
    → IsSplit sets (first_ones rs (k + 1)) known next
one_other sets rs k r known others next lt is miss more split =
    let keep : WireRecord → Bool = λ (q : WireRecord). not (sets q) in
    record {
      are_known = split.are_known ∙ sym (left_out sets rs k r lt is miss);
      are_others = more ∙ ap (λ z. z ++ bytes_of (record_view r)) split.are_others
          ∙ sym (ap (flat_map bytes_of) (kept keep rs k r lt is (ap not miss))
          ∙ flat_map-append bytes_of (filter keep (first_ones rs k)) (record_view r ∷ [])
          ∙ ap (λ z. flat_map bytes_of (filter keep (first_ones rs k)) ++ z)
          (append-nil (bytes_of (record_view r))));
    }

-- All records are split.
pub all_split : (sets : WireRecord → Bool) (rs : List Record) (k : ℕ) (known : List WireRecord)
    (others : List ℕ) → length rs ≤ k → IsSplit sets (first_ones rs k) known others
    → IsSplit sets (map record_view rs) known others
all_split sets rs k known others le split =
    subst (λ z. IsSplit sets (map record_view z) known others) (take_all k rs le) split
