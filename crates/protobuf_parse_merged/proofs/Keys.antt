-- Entries by their keys.
use Rattle.std.proofs.Common.{◌≡◌, ℕ, ℤ, ◌+◌, ◌<◌, ◌==◌, List, [], ◌∷◌, ◌++◌, length, get_or, drop, map}
use Rattle.std.proofs.Common.{refl, ap, ◌∙◌, cond, drop-cons, add-one, rules}
use Rattle.std.specs.Borrow.{Bor}
use Rattle.std.specs.BTreeMap.{insert_entry}
use Rattle.std.specs.Ordering.{match_ordering}
use Rattle.std.specs.declared.cmp.Ordering.{Ordering}
use Rattle.std.specs.declared.cmp.Ordering.TheVariants.{Less, Equal, Greater}
use Rattle.protobuf_parse_merged.specs.declared.message.Field as codefield
use Rattle.protobuf_parse_merged.specs.declared.message.Field.{fold_out-Field, the_lemmas}
use Rattle.protobuf_parse_merged.specs.declared.message.FieldValue as codevalue
use Rattle.protobuf_parse_merged.specs.Merged.{Value, fields_of, values_of}
use Rattle.protobuf_parse_merged.specs.Maps.{Key, key_cmp, key_in, key_of, key_of_values, put_all}
use Rattle.protobuf_parse_merged.specs.Inside.{field_view, value_view}
use Rattle.protobuf_parse_merged.specs.Keyed.{entries_seen, key_view}

pub number_seen : (f : codefield.Field) → (field_view f).number ≡ f.number
number_seen f = search (rules, the_lemmas, fold_out-Field)

pub inside_seen : (f : codefield.Field) → (field_view f).values ≡ map value_view f.values.items
inside_seen f = search (rules, the_lemmas, fold_out-Field)

-- the key among fields, from the next one on
pub next_key : (xs : List codefield.Field) (i : ℕ) (x : codefield.Field) → i < length xs
    → x ≡ get_or xs i x
    → key_in (fields_of (map field_view (drop i xs)))
    ≡ cond ((field_view x).number == 1) (key_of_values (values_of (field_view x).values))
    (key_in (fields_of (map field_view (drop (i + 1) xs))))
next_key xs i x below is =
    let step : drop i xs ≡ x ∷ drop (i + 1) xs = rw (add-one, drop-cons xs i x, ← is) refl in
    ap (λ (ys : List codefield.Field). key_in (fields_of (map field_view ys))) step

-- the key, where the next field is the one that holds it
pub found_here : (xs : List codefield.Field) (i : ℕ) (x : codefield.Field) → i < length xs
    → x ≡ get_or xs i x → x.number ≡ 1
    → key_in (fields_of (map field_view (drop i xs)))
    ≡ key_of_values (values_of (map value_view x.values.items))
found_here xs i x below is one =
    next_key xs i x below is
    ∙ ap (λ (n : ℕ). cond (n == 1) (key_of_values (values_of (field_view x).values))
    (key_in (fields_of (map field_view (drop (i + 1) xs))))) (number_seen x ∙ one)
    ∙ ap (λ (vs : List Value). key_of_values (values_of vs)) (inside_seen x)

-- one entry more, behind the others
pub put_last : (es : List (Key × Value)) (vs : List Value) (v : Value)
    → put_all es (vs ++ v ∷ []) ≡ insert_entry key_cmp (put_all es vs) (key_of v) v
put_last es [] v = refl
put_last es (w ∷ vs) v = put_last (insert_entry key_cmp es (key_of w) w) vs v

abbrev CodeKey : Type 0
CodeKey = ℤ × Bor (List ℕ)

abbrev CodeEntry : Type 0
CodeEntry = CodeKey × codevalue.FieldValue

module _ (cmp : CodeKey → CodeKey → Ordering)
    (alike : (a b : CodeKey) → cmp a b ≡ key_cmp (key_view a) (key_view b)) where
  seen_at : (o : Ordering) (e : CodeEntry) (es : List CodeEntry) (k : CodeKey)
      (v : codevalue.FieldValue)
      → entries_seen (insert_entry cmp es k v)
      ≡ insert_entry key_cmp (entries_seen es) (key_view k) (value_view v)
      → entries_seen
      (match_ordering o ((k, v) ∷ e ∷ es) ((e.0, v) ∷ es) (e ∷ insert_entry cmp es k v))
      ≡ match_ordering o
      ((key_view k, value_view v) ∷ (key_view e.0, value_view e.1) ∷ entries_seen es)
      ((key_view e.0, value_view v) ∷ entries_seen es)
      ((key_view e.0, value_view e.1)
      ∷ insert_entry key_cmp (entries_seen es) (key_view k) (value_view v))
  seen_at Less e es k v h = refl
  seen_at Equal e es k v h = refl
  seen_at Greater e es k v h =
      ap (λ (xs : List (Key × Value)). (key_view e.0, value_view e.1) ∷ xs) h

  -- an entry that is put, as it is seen
  pub seen_put : (es : List CodeEntry) (k : CodeKey) (v : codevalue.FieldValue)
      → entries_seen (insert_entry cmp es k v)
      ≡ insert_entry key_cmp (entries_seen es) (key_view k) (value_view v)
  seen_put [] k v = refl
  seen_put (e ∷ es) k v =
      seen_at (cmp k e.0) e es k v (seen_put es k v)
      ∙ ap (λ (o : Ordering). match_ordering o
      ((key_view k, value_view v) ∷ (key_view e.0, value_view e.1) ∷ entries_seen es)
      ((key_view e.0, value_view v) ∷ entries_seen es)
      ((key_view e.0, value_view e.1)
      ∷ insert_entry key_cmp (entries_seen es) (key_view k) (value_view v))) (alike k e.0)

-- what is seen of entries without their keys
pub values_seen : (es : List CodeEntry)
    → map value_view (map (λ (e : CodeEntry). e.1) es)
    ≡ map (λ (e : Key × Value). e.1) (entries_seen es)
values_seen [] = refl
values_seen (e ∷ es) = ap (λ (vs : List Value). value_view e.1 ∷ vs) (values_seen es)
