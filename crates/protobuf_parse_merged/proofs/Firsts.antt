-- What a loop finds in values and fields, one after the other.
use Rattle.std.proofs.Common.{◌≡◌, ℕ, ◌+◌, ◌<◌, ◌==◌, ◌&&◌, ◌||◌, List, ◌∷◌, length, get_or, drop}
use Rattle.std.proofs.Common.{Bool, refl, sym, ap, ◌∙◌, drop-cons, add-one}
use Rattle.protobuf_parse_model.specs.Descriptors.{FileDescriptor}
use Rattle.protobuf_parse_decode.specs.declared.field.DecodedField.{DecodedField}
use Rattle.protobuf_parse_decode.specs.declared.field.Value as code
use Rattle.protobuf_parse_decode.specs.Inside.{value_view, values_view}
use Rattle.protobuf_parse_decode.specs.Fields.{value}
use Rattle.protobuf_parse_decode.specs.Views.{field_view, fields_view}
use Rattle.protobuf_parse_merged.specs.Declarations.{Declared}
use Rattle.protobuf_parse_merged.specs.Occurrences.{any_undeclared, holds_undeclared}
use Rattle.protobuf_parse_merged.specs.Occurrences.{is_undeclared, means_undeclared}
use Rattle.protobuf_parse_merged.proofs.Telling.{next_field}

pub next_value : (xs : List code.Value) (i : ℕ) (x : code.Value) → i < length xs
    → x ≡ get_or xs i x
    → values_view (drop i xs) ≡ value (value_view x) (values_view (drop (i + 1) xs))
next_value xs i x below is =
    let step : drop i xs ≡ x ∷ drop (i + 1) xs = rw (add-one, drop-cons xs i x, ← is) refl in
    ap values_view step

module _ (files : List FileDescriptor) (d : Declared) where
  -- whether one of the values is undeclared, from the next on
  pub next_any : (xs : List code.Value) (i : ℕ) (x : code.Value) (b : Bool) → i < length xs
      → x ≡ get_or xs i x → b ≡ is_undeclared files d (value_view x)
      → any_undeclared files d (values_view (drop i xs))
      ≡ (b || any_undeclared files d (values_view (drop (i + 1) xs)))
  next_any xs i x b below is e =
      ap (any_undeclared files d) (next_value xs i x below is)
      ∙ ap (λ (a : Bool). a || any_undeclared files d (values_view (drop (i + 1) xs))) (sym e)

  -- the same of fields
  pub next_holds : (n : ℕ) (xs : List DecodedField) (i : ℕ) (x : DecodedField) → i < length xs
      → x ≡ get_or xs i x
      → holds_undeclared files d n (fields_view (drop i xs))
      ≡ (((field_view x).number == n) && means_undeclared files d (field_view x).meaning
      || holds_undeclared files d n (fields_view (drop (i + 1) xs)))
  next_holds n xs i x below is = ap (holds_undeclared files d n) (next_field xs i x below is)
