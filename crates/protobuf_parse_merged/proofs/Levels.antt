-- One level of a message, and the last of what stands there.
use Rattle.std.proofs.Common.{◌≡◌, ℕ, zero, suc, ◌-◌, ◌^◌, ◌≤◌, ◌<◌, List, [], ◌∷◌, ◌++◌, length}
use Rattle.std.proofs.Common.{map, get_or, drop, slice_get, slice_range, Some, None, refl, ap}
use Rattle.std.proofs.Common.{sym, ◌∙◌, arith}
use Rattle.std.proofs.lemmas.List.{drop_more, map-append}
use Rattle.std.proofs.lemmas.List.Folds.{drop_split}
use Rattle.protobuf_parse_model.specs.Descriptors.{Text, FileDescriptor}
use Rattle.protobuf_parse_decode.specs.Fields.{Fields}
use Rattle.protobuf_parse_merged.specs.declared.occurrences.Occurrence as code
use Rattle.protobuf_parse_merged.specs.declared.fault.MergeError.{MergeError}
use Rattle.protobuf_parse_merged.specs.declared.fault.MergeError.TheVariants as error
use Rattle.protobuf_parse_merged.specs.declared.message.Message as codem
use Rattle.protobuf_parse_merged.specs.declared.message.FieldValue.{fold-roll-FieldValue}
use Rattle.protobuf_parse_merged.specs.declared.message.FieldValue.TheVariants as values
use Rattle.protobuf_parse_merged.specs.declared.message.FieldValue.TheOpen.{FieldValue-F as layer}
use Rattle.protobuf_parse_merged.specs.Answers.{Answer, ◌>>=◌, Fails}
use Rattle.protobuf_parse_merged.specs.Merged.{FieldItem, Unknown, Value, Message, message}
use Rattle.protobuf_parse_merged.specs.Declarations.{declared_in}
use Rattle.protobuf_parse_merged.specs.Defaults.{defaults}
use Rattle.protobuf_parse_merged.specs.Occurrences.{Held, Occurrence, occurrences, unknown_among}
use Rattle.protobuf_parse_merged.specs.Oneofs.{counting}
use Rattle.protobuf_parse_merged.specs.Merging.{Inner, as_one, fields_below, joined}
use Rattle.protobuf_parse_merged.specs.Merging.{last_of, merged_within, with_fields}
use Rattle.protobuf_parse_merged.specs.Inside.{IsTold, held_in, held_view, occurrence_view}
use Rattle.protobuf_parse_merged.specs.Inside.{value_view}
use Rattle.protobuf_parse_merged.specs.Views.{field_step, message_step, message_view, value_step}
use Rattle.protobuf_parse_merged.proofs.Grouping.{StartsWith, same_fields}

pub too_deep : (files : List FileDescriptor) (levels : ℕ) (name : Text) (fs : Fields) → levels ≡ 0
    → merged_within files levels name fs ≡ None
unfolding merged_within
too_deep files zero name fs none = refl
too_deep files (suc n) name fs none = absurd (omega arith)

pub one_level : (files : List FileDescriptor) (levels : ℕ) (name : Text) (fs : Fields)
    (os : List Occurrence) (us : List Unknown) → (levels ≡ 0 → ⊥)
    → IsTold files (declared_in files name) (defaults files name) fs os us
    → merged_within files levels name fs
    ≡ with_fields (fields_below (merged_within files (levels - 1)) (declared_in files name) os (2 ^ 32))
    us
unfolding merged_within
one_level files zero name fs os us some told = absurd (some refl)
one_level files (suc n) name fs os us some told =
    let k : n ≡ suc n - 1 = omega arith in
    ap (λ (x : Answer (List FieldItem)). with_fields x (unknown_among files (declared_in files name) fs))
    (sym (same_fields (merged_within files n) (declared_in files name)
    (counting (defaults files name ++ occurrences files (declared_in files name) fs)) os told.by_number.same (2 ^ 32)))
    ∙ ap (λ (unknown : List Unknown). with_fields
    (fields_below (merged_within files n) (declared_in files name) os (2 ^ 32)) unknown)
    (sym told.unknown)
    ∙ ap (λ m. with_fields
    (fields_below (merged_within files m) (declared_in files name) os (2 ^ 32)) us) k

-- ---- the last

last_at : (xs : List code.Occurrence) (n : ℕ) (x : code.Occurrence) → suc n ≡ length xs
    → Some x ≡ slice_get xs n → last_of (held_in (map occurrence_view xs)) ≡ Some (held_view x.held)
last_at [] n x counted is = absurd (omega arith)
last_at (y ∷ []) zero x counted is =
    let same : x ≡ y = cc in
    ap (λ (o : code.Occurrence). Some (held_view o.held)) (sym same)
last_at (y ∷ []) (suc n) x counted is = absurd (omega arith)
last_at (y ∷ (z ∷ zs)) zero x counted is = absurd (omega arith)
last_at (y ∷ (z ∷ zs)) (suc n) x counted is = last_at (z ∷ zs) n x (omega arith) is

none_in_none : (n : ℕ) (x : code.Occurrence) → Some x ≡ slice_get [] n → ⊥
none_in_none zero x is = absurd (cc)
none_in_none (suc n) x is = absurd (cc)

pub last_is : (xs : List code.Occurrence) (x : code.Occurrence)
    → Some x ≡ slice_get xs (length xs - 1)
    → last_of (held_in (map occurrence_view xs)) ≡ Some (held_view x.held)
last_is [] x is = absurd (none_in_none (length {A = code.Occurrence} [] - 1) x is)
last_is (y ∷ ys) x is =
    last_at (y ∷ ys) (length (y ∷ ys) - 1) x (omega arith) is

-- all messages as one, where there is none
pub as_one_fails : (inner : Inner) (name : Text) (hs : List Held) (e : MergeError)
    → Fails e (inner name (joined hs)) → Fails e (as_one inner name hs)
as_one_fails inner name hs error.Memory fails = tt
as_one_fails inner name hs error.TooDeep fails =
    ap (λ (x : Answer Message). x >>= λ (m : Message). Some (message m ∷ [])) fails

-- a value of the code that is a message
pub message_is : (m : codem.Message) → value_view (values.Message m) ≡ message (message_view m)
message_is m = ap value_view (sym (values.rolls-Message m))
    ∙ fold-roll-FieldValue Value FieldItem Message value_step field_step message_step
    (layer.Message m)

-- ---- runs

-- what is left starts with the next
pub starts_with : (xs : List code.Occurrence) (i : ℕ) (x : code.Occurrence) → i < length xs
    → StartsWith (get_or xs i x).number (map occurrence_view (drop i xs))
starts_with xs i x below = rw (drop_more xs i x below) refl

-- what is left is a run and the others
pub run_split : (xs : List code.Occurrence) (i e : ℕ) → i ≤ e
    → map occurrence_view (drop i xs)
    ≡ map occurrence_view (slice_range xs i e) ++ map occurrence_view (drop e xs)
run_split xs i e le =
    ap (map occurrence_view) (drop_split xs i e le)
    ∙ map-append occurrence_view (slice_range xs i e) (drop e xs)
