-- What fields hold, one after the other.
use Rattle.std.proofs.Common.{◌≡◌, ℕ, ◌+◌, ◌<◌, List, ◌∷◌, ◌++◌, length, get_or, drop, map, refl}
use Rattle.std.proofs.Common.{sym, ap, ◌∙◌, append_assoc, append-nil, drop-cons, add-one}
use Rattle.protobuf_parse_model.specs.Descriptors.{FileDescriptor}
use Rattle.protobuf_parse_decode.specs.declared.field.DecodedField.{DecodedField}
use Rattle.protobuf_parse_decode.specs.Fields.{Fields, no_fields, field}
use Rattle.protobuf_parse_decode.specs.Laws.{join}
use Rattle.protobuf_parse_decode.specs.Views.{FieldItem, field_view, fields_view}
use Rattle.protobuf_parse_merged.specs.declared.occurrences.Occurrence as code
use Rattle.protobuf_parse_merged.specs.Merged.{Unknown}
use Rattle.protobuf_parse_merged.specs.Declarations.{FieldsByNumber}
use Rattle.protobuf_parse_merged.specs.Occurrences.{Held, plain, inside, Occurrence, occurrences}
use Rattle.protobuf_parse_merged.specs.Occurrences.{occurrences_of, unknown_among, unknown_of}
use Rattle.protobuf_parse_merged.specs.Merging.{joined}
use Rattle.protobuf_parse_merged.specs.Inside.{fields_in, held_in, held_view, occurrence_view}

-- ---- fields

pub next_field : (xs : List DecodedField) (i : ℕ) (x : DecodedField) → i < length xs
    → x ≡ get_or xs i x
    → fields_view (drop i xs)
    ≡ field (field_view x).number (field_view x).whole (field_view x).meaning
    (fields_view (drop (i + 1) xs))
next_field xs i x below is =
    let step : drop i xs ≡ x ∷ drop (i + 1) xs = rw (add-one, drop-cons xs i x, ← is) refl in
    ap fields_view step

module _ (files : List FileDescriptor) (declared : FieldsByNumber) where
  -- the values of one field more
  pub values_more : (front : List Occurrence) (f : FieldItem) (fs : Fields) (total : List Occurrence)
      → front ++ occurrences files declared (field f.number f.whole f.meaning fs) ≡ total
      → (front ++ occurrences_of files (declared f.number) f.number f.whole f.meaning) ++ occurrences files declared fs
      ≡ total
  unfolding occurrences
  values_more front f fs total h =
      append_assoc front (occurrences_of files (declared f.number) f.number f.whole f.meaning)
      (occurrences files declared fs)
      ∙ h

  pub no_values : (front total : List Occurrence) → front ++ occurrences files declared no_fields ≡ total
      → front ≡ total
  unfolding occurrences
  no_values front total h = sym (append-nil front) ∙ h

  -- what is unknown of one field more
  pub unknown_more : (front : List Unknown) (f : FieldItem) (fs : Fields) (total : List Unknown)
      → front ++ unknown_among files declared (field f.number f.whole f.meaning fs) ≡ total
      → (front ++ unknown_of files (declared f.number) f.number f.whole f.meaning)
      ++ unknown_among files declared fs
      ≡ total
  unfolding unknown_among
  unknown_more front f fs total h =
      append_assoc front (unknown_of files (declared f.number) f.number f.whole f.meaning)
      (unknown_among files declared fs)
      ∙ h

  pub nothing_unknown : (front total : List Unknown)
      → front ++ unknown_among files declared no_fields ≡ total → front ≡ total
  unfolding unknown_among
  nothing_unknown front total h = sym (append-nil front) ∙ h

  -- ---- messages

  pub values_join : (fs gs : Fields)
      → occurrences files declared (join fs gs) ≡ occurrences files declared fs ++ occurrences files declared gs
  unfolding occurrences
  values_join no_fields gs = refl
  values_join (field n whole meaning fs) gs =
      ap (λ (os : List Occurrence). occurrences_of files (declared n) n whole meaning ++ os)
      (values_join fs gs)
      ∙ sym (append_assoc (occurrences_of files (declared n) n whole meaning) (occurrences files declared fs)
      (occurrences files declared gs))

  pub unknown_join : (fs gs : Fields)
      → unknown_among files declared (join fs gs)
      ≡ unknown_among files declared fs ++ unknown_among files declared gs
  unfolding unknown_among
  unknown_join no_fields gs = refl
  unknown_join (field n whole meaning fs) gs =
      ap (λ (us : List Unknown). unknown_of files (declared n) n whole meaning ++ us)
      (unknown_join fs gs)
      ∙ sym (append_assoc (unknown_of files (declared n) n whole meaning) (unknown_among files declared fs)
      (unknown_among files declared gs))

-- the messages of what stands there next
next_joined : (h : Held) (hs : List Held) → joined (h ∷ hs) ≡ join (fields_in h) (joined hs)
next_joined (plain v) hs = refl
next_joined (inside fs) hs = refl

pub next_message : (xs : List code.Occurrence) (i : ℕ) (x : code.Occurrence) → i < length xs
    → x ≡ get_or xs i x
    → joined (held_in (map occurrence_view (drop i xs)))
    ≡ join (fields_in (held_view x.held)) (joined (held_in (map occurrence_view (drop (i + 1) xs))))
next_message xs i x below is =
    let step : drop i xs ≡ x ∷ drop (i + 1) xs = rw (add-one, drop-cons xs i x, ← is) refl in
    ap (λ (ys : List code.Occurrence). joined (held_in (map occurrence_view ys))) step
    ∙ next_joined (held_view x.held) (held_in (map occurrence_view (drop (i + 1) xs)))

module _ {X : Type 0} where
  -- what was told of the next message, with what is left
  pub told_more : (front next rest all total : List X) → front ++ all ≡ total → all ≡ next ++ rest
      → (front ++ next) ++ rest ≡ total
  told_more front next rest all total h e =
      append_assoc front next rest ∙ ap (λ (xs : List X). front ++ xs) (sym e) ∙ h
