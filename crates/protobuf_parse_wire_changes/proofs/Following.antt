-- What is decoded by old declarations is decoded by new ones that fit.
use Rattle.std.proofs.Common.{◌≡◌, ℕ, zero, suc, Bool, true, false, List, [], ◌∷◌, length, Option}
use Rattle.std.proofs.Common.{Some, None, Ok, cond, refl, sym, ap, ◌∙◌, subst}
use Rattle.std.specs.Prelude.{IsTrue}
use Rattle.std.specs.Str.{is_utf8}
use Rattle.protobuf_parse_records.specs.Views.{Extent, Content, WireRecord}
use Rattle.protobuf_parse_records.specs.Views as content
use Rattle.protobuf_parse_records.specs.Wire.{◌>>=◌}
use Rattle.protobuf_parse_records.specs.Splitting.{records_in}
use Rattle.protobuf_parse_wire.specs.Kinds.{Word, varint, eight_bytes, four_bytes}
use Rattle.protobuf_parse_decode.specs.declared.fault.DecodeFaultKind.TheVariants as kind
use Rattle.protobuf_parse_decode.specs.Answers.{Answer, fault, found, on_wire}
use Rattle.protobuf_parse_decode.specs.Declarations.{Declared, Enter, FieldsByNumber}
use Rattle.protobuf_parse_model.specs.Descriptors.{Text}
use Rattle.protobuf_parse_decode.specs.Decoding.{Inner, by_sort, bytes_in, fields_of, group_in}
use Rattle.protobuf_parse_decode.specs.Decoding.{if_same, meaning_of, message_in, message_within}
use Rattle.protobuf_parse_decode.specs.Decoding.{numbers_in, packed, packed_within, same_word}
use Rattle.protobuf_parse_decode.specs.Decoding.{string_in, text_in, word_at}
use Rattle.protobuf_parse_decode.specs.Fields.{Value, Values, Meaning, Fields, text, bytes, message}
use Rattle.protobuf_parse_decode.specs.Fields.{no_values, value, unknown, known, no_fields, field}
use Rattle.protobuf_parse_decode.specs.Fields.{one_value}
use Rattle.protobuf_parse_decode.specs.Sorts.{Says, Sort, numbers, string, octets, group}
use Rattle.protobuf_parse_decode.specs.Sorts as sorts
use Rattle.protobuf_parse_decode.proofs.Steps.{gave, ok_is}
use Rattle.protobuf_parse_wire_changes.specs.declared.strength.Strength.{Strength}
use Rattle.protobuf_parse_wire_changes.specs.Seen.{Settled, MeaningSettled, declared_by}
use Rattle.protobuf_parse_wire_changes.specs.Seen.{has_to_be_utf8, meaning_seen, seen, value_seen}
use Rattle.protobuf_parse_wire_changes.specs.Seen.{values_seen}

-- whether the messages of those names go together
abbrev pub Together : Type 0
Together = (old new : Option Text) → Bool

-- ---- what fits

-- The new field reads what the old one reads: numbers that stand alike, packed ones too where the
-- old field reads such; text or bytes, if the new one asks no more of them; messages and groups
-- that go together.
pub data Fits (st : Strength) (new : Enter) (together : Together) (f g : Declared) : Type 0 where
  words : (w : Word) (says says' : Says) → f.sort ≡ numbers w says → g.sort ≡ numbers w says'
      → (IsTrue f.repeated → IsTrue g.repeated)
      → ((u : ℕ) → says' u ≡ value_seen st new g (says u)) → Fits st new together f g
  texts : (u u' : Bool) → f.sort ≡ string u → g.sort ≡ string u' → (IsTrue u' → IsTrue u)
      → Fits st new together f g
  texts_as_bytes : (u : Bool) → f.sort ≡ string u → g.sort ≡ octets → Fits st new together f g
  bytes_as_texts : f.sort ≡ octets → g.sort ≡ string false → Fits st new together f g
  all_bytes : f.sort ≡ octets → g.sort ≡ octets → Fits st new together f g
  messages : f.sort ≡ sorts.message → g.sort ≡ sorts.message
      → IsTrue (together f.type_name g.type_name) → Fits st new together f g
  groups : f.sort ≡ group → g.sort ≡ group
      → IsTrue (together f.type_name g.type_name) → Fits st new together f g

-- Of messages that go together, the new one is declared where the old one is, and the fields of
-- each number that both declare fit.
pub record Follows (st : Strength) (together : Together) (old new : Enter) : Type 0 where
  pub enters : (o n : Option Text) → IsTrue (together o n) → (declared : FieldsByNumber)
      → old o ≡ Some declared → new n ≡ Some (declared_by (new n))
  pub fits : (o n : Option Text) → IsTrue (together o n) → (declared : FieldsByNumber)
      → old o ≡ Some declared → (k : ℕ) (f g : Declared) → declared k ≡ Some f
      → declared_by (new n) k ≡ Some g → Fits st new together f g

-- ---- one field

packed_follow : (st : Strength) (new : Enter) (g : Declared) (w : Word) (says says' : Says)
    → ((u : ℕ) → says' u ≡ value_seen st new g (says u))
    → (most start : ℕ) (bs : List ℕ) (vs : Values) → packed_within w says most start bs ≡ Ok vs
    → packed_within w says' most start bs ≡ Ok (values_seen st new g vs)
unfolding packed_within
packed_follow st new g w says says' same most start [] vs h =
    ap (λ (z : Values). Ok (values_seen st new g z)) (ok_is no_values vs h)
packed_follow st new g w says says' same zero start (b ∷ bs) vs h = absurd (cc)
packed_follow st new g w says says' same (suc most) start (b ∷ bs) vs h =
    let s : Extent = record { start = start; bytes = b ∷ bs } in
    let one = gave (on_wire (word_at w s)) (λ (first : ℕ × Extent).
    packed_within w says most first.1.start first.1.bytes
    >>= λ (others : Values). Ok (value (says first.0) others)) vs h in
    let u = one.first in
    let more = gave (packed_within w says most u.1.start u.1.bytes)
    (λ (others : Values). Ok (value (says u.0) others)) vs one.then in
    let all : value (says u.0) more.first ≡ vs = ok_is _ _ more.then in
    let later = packed_follow st new g w says says' same most u.1.start u.1.bytes more.first
    more.is in
    rw (one.is, later, same u.0)
    (ap (λ (z : Values). Ok (values_seen st new g z)) all)

module _ (st : Strength) (new : Enter) (g : Declared) where
  abbrev Sees : Meaning → Meaning
  Sees m = meaning_seen st new (Some g) m

  -- nothing known stays so
  nothing : (m : Meaning) → ◌≡◌ {A = Answer Meaning} (Ok unknown) (Ok m)
      → ◌≡◌ {A = Answer Meaning} (Ok unknown) (Ok (Sees m))
  nothing m h = ap (λ (z : Meaning). Ok (Sees z)) (ok_is unknown m h)

  one_follows : (v v' : Value) → v' ≡ value_seen st new g v → (b : Bool) (m : Meaning)
      → if_same b v ≡ Ok m → if_same b v' ≡ Ok (Sees m)
  one_follows v v' same true m h =
      rw same (ap (λ (z : Meaning). Ok (Sees z)) (ok_is (one_value v) m h))
  one_follows v v' same false m h = nothing m h

  -- It is settled, so packed numbers are known.
  numbers_follow : (w : Word) (says says' : Says)
      → ((u : ℕ) → says' u ≡ value_seen st new g (says u))
      → (r r' : Bool) → (IsTrue r → IsTrue r') → (p : Content) (m : Meaning)
      → numbers_in w says r p ≡ Ok m → MeaningSettled new (Some g) m
      → numbers_in w says' r' p ≡ Ok (Sees m)
  numbers_follow w says says' same r r' more (content.varint n) m h settled =
      one_follows (says n) (says' n) (same n) (same_word w varint) m h
  numbers_follow w says says' same r r' more (content.fixed64 n) m h settled =
      one_follows (says n) (says' n) (same n) (same_word w eight_bytes) m h
  numbers_follow w says says' same r r' more (content.fixed32 n) m h settled =
      one_follows (says n) (says' n) (same n) (same_word w four_bytes) m h
  numbers_follow w says says' same true true more (content.delimited s) m h settled =
      let k = gave (packed w says s) (λ (vs : Values). Ok (known vs)) m h in
      let is : known k.first ≡ m = ok_is _ _ k.then in
      rw (packed_follow st new g w says says' same (length s.bytes) s.start s.bytes k.first k.is)
      (ap (λ (z : Meaning). Ok (Sees z)) is)
  numbers_follow w says says' same true false more (content.delimited s) m h settled =
      let no : false ≡ true = more refl in absurd (cc)
  numbers_follow w says says' same false r' more (content.delimited s) m h settled =
      absurd (subst (λ (z : Meaning). MeaningSettled new (Some g) z) (sym (ok_is unknown m h))
      settled)
  numbers_follow w says says' same r r' more (content.group s) m h settled = nothing m h

  -- the new sort in the place of its name
  by_its_sort : (inner : Inner) (at : ℕ) (p : Content) (m : Meaning) (z : Sort) → g.sort ≡ z
      → by_sort inner at g.type_name g.repeated z p ≡ Ok (Sees m)
      → by_sort inner at g.type_name g.repeated g.sort p ≡ Ok (Sees m)
  by_its_sort inner at p m z e = subst (λ (y : Sort).
      by_sort inner at g.type_name g.repeated y p ≡ Ok (Sees m)) (sym e)

  -- ---- messages

  -- what stands inside
  abbrev FollowsInside : Inner → Inner → Option Text → Type 0
  FollowsInside inner inner' o = (at : ℕ) (s : Extent) (fs : Fields) → inner at o s ≡ Ok fs
      → Settled new (declared_by (new g.type_name)) fs
      → inner' at g.type_name s ≡ Ok (seen st new (declared_by (new g.type_name)) fs)

  message_settled : (fs : Fields) (m : Meaning) → one_value (message fs) ≡ m
      → MeaningSettled new (Some g) m → Settled new (declared_by (new g.type_name)) fs
  message_settled fs m is settled =
      (subst (λ (z : Meaning). MeaningSettled new (Some g) z) (sym is) settled).0

  inside_follows : (inner inner' : Inner) (o : Option Text) → FollowsInside inner inner' o
      → (at : ℕ) (s : Extent) (m : Meaning)
      → (inner at o s >>= λ (fs : Fields). Ok (one_value (message fs))) ≡ Ok m
      → MeaningSettled new (Some g) m
      → (inner' at g.type_name s >>= λ (fs : Fields). Ok (one_value (message fs))) ≡ Ok (Sees m)
  inside_follows inner inner' o follows at s m h settled =
      let k = gave (inner at o s) (λ (fs : Fields). Ok (one_value (message fs))) m h in
      let is : one_value (message k.first) ≡ m = ok_is _ _ k.then in
      let later = follows at s k.first k.is (message_settled k.first m is settled) in
      rw later (ap (λ (z : Meaning). Ok (Sees z)) is)

  messages_follow : (inner inner' : Inner) (o : Option Text) → FollowsInside inner inner' o
      → (at : ℕ) (p : Content) (m : Meaning) → message_in inner at o p ≡ Ok m
      → MeaningSettled new (Some g) m → message_in inner' at g.type_name p ≡ Ok (Sees m)
  messages_follow inner inner' o follows at (content.delimited s) m h settled =
      inside_follows inner inner' o follows at s m h settled
  messages_follow inner inner' o follows at (content.varint n) m h settled = nothing m h
  messages_follow inner inner' o follows at (content.fixed64 n) m h settled = nothing m h
  messages_follow inner inner' o follows at (content.fixed32 n) m h settled = nothing m h
  messages_follow inner inner' o follows at (content.group s) m h settled = nothing m h

  groups_follow : (inner inner' : Inner) (o : Option Text) → FollowsInside inner inner' o
      → (at : ℕ) (p : Content) (m : Meaning) → group_in inner at o p ≡ Ok m
      → MeaningSettled new (Some g) m → group_in inner' at g.type_name p ≡ Ok (Sees m)
  groups_follow inner inner' o follows at (content.group s) m h settled =
      inside_follows inner inner' o follows at s m h settled
  groups_follow inner inner' o follows at (content.varint n) m h settled = nothing m h
  groups_follow inner inner' o follows at (content.fixed64 n) m h settled = nothing m h
  groups_follow inner inner' o follows at (content.fixed32 n) m h settled = nothing m h
  groups_follow inner inner' o follows at (content.delimited s) m h settled = nothing m h

  -- ---- texts and bytes

  -- a text stays one where it has to be UTF-8
  texts_stay : has_to_be_utf8 g.sort ≡ true → (p : Content) (m : Meaning) → text_in p ≡ Ok m
      → text_in p ≡ Ok (Sees m)
  texts_stay utf8 (content.delimited s) m h = by_test (is_utf8 s.bytes) h
    where
      by_test : (b : Bool)
          → ◌≡◌ {A = Answer Meaning}
          (cond b (Ok (one_value (text s.bytes))) (fault s.start kind.NotUtf8)) (Ok m)
          → ◌≡◌ {A = Answer Meaning}
          (cond b (Ok (one_value (text s.bytes))) (fault s.start kind.NotUtf8)) (Ok (Sees m))
      by_test true e =
          sym (ap (λ (b : Bool). Ok (one_value (cond b (text s.bytes) (bytes s.bytes)))) utf8)
          ∙ ap (λ (z : Meaning). Ok (Sees z)) (ok_is (one_value (text s.bytes)) m e)
      by_test false e = absurd (cc)
  texts_stay utf8 (content.varint n) m h = nothing m h
  texts_stay utf8 (content.fixed64 n) m h = nothing m h
  texts_stay utf8 (content.fixed32 n) m h = nothing m h
  texts_stay utf8 (content.group s) m h = nothing m h

  -- and else becomes bytes
  texts_become_bytes : has_to_be_utf8 g.sort ≡ false → (p : Content) (m : Meaning)
      → text_in p ≡ Ok m → bytes_in p ≡ Ok (Sees m)
  texts_become_bytes utf8 (content.delimited s) m h = by_test (is_utf8 s.bytes) h
    where
      by_test : (b : Bool)
          → ◌≡◌ {A = Answer Meaning}
          (cond b (Ok (one_value (text s.bytes))) (fault s.start kind.NotUtf8)) (Ok m)
          → ◌≡◌ {A = Answer Meaning} (Ok (one_value (bytes s.bytes))) (Ok (Sees m))
      by_test true e =
          sym (ap (λ (b : Bool). Ok (one_value (cond b (text s.bytes) (bytes s.bytes)))) utf8)
          ∙ ap (λ (z : Meaning). Ok (Sees z)) (ok_is (one_value (text s.bytes)) m e)
      by_test false e = absurd (cc)
  texts_become_bytes utf8 (content.varint n) m h = nothing m h
  texts_become_bytes utf8 (content.fixed64 n) m h = nothing m h
  texts_become_bytes utf8 (content.fixed32 n) m h = nothing m h
  texts_become_bytes utf8 (content.group s) m h = nothing m h

  bytes_stay : (p : Content) (m : Meaning) → bytes_in p ≡ Ok m → bytes_in p ≡ Ok (Sees m)
  bytes_stay (content.delimited s) m h =
      ap (λ (z : Meaning). Ok (Sees z)) (ok_is (one_value (bytes s.bytes)) m h)
  bytes_stay (content.varint n) m h = nothing m h
  bytes_stay (content.fixed64 n) m h = nothing m h
  bytes_stay (content.fixed32 n) m h = nothing m h
  bytes_stay (content.group s) m h = nothing m h

  strings_follow : (u u' : Bool) → g.sort ≡ string u' → (IsTrue u' → IsTrue u)
      → (p : Content) (m : Meaning) → string_in u p ≡ Ok m → string_in u' p ≡ Ok (Sees m)
  strings_follow true true is less p m h = texts_stay (ap has_to_be_utf8 is) p m h
  strings_follow true false is less p m h = texts_become_bytes (ap has_to_be_utf8 is) p m h
  strings_follow false true is less p m h = let no : false ≡ true = less refl in absurd (cc)
  strings_follow false false is less p m h = bytes_stay p m h

  strings_as_bytes : (u : Bool) → g.sort ≡ octets → (p : Content) (m : Meaning)
      → string_in u p ≡ Ok m → bytes_in p ≡ Ok (Sees m)
  strings_as_bytes true is p m h = texts_become_bytes (ap has_to_be_utf8 is) p m h
  strings_as_bytes false is p m h = bytes_stay p m h

  -- ---- fields

  -- a field that both declare
  field_follows : (together : Together) (f : Declared) (inner inner' : Inner)
      → Fits st new together f g
      → (IsTrue (together f.type_name g.type_name) → FollowsInside inner inner' f.type_name)
      → (at : ℕ) (p : Content) (m : Meaning)
      → by_sort inner at f.type_name f.repeated f.sort p ≡ Ok m → MeaningSettled new (Some g) m
      → by_sort inner' at g.type_name g.repeated g.sort p ≡ Ok (Sees m)
  unfolding by_sort
  field_follows together f inner inner' (words w says says' is is' more same) follows at p m h
      settled =
      by_its_sort inner' at p m _ is' (numbers_follow w says says' same f.repeated g.repeated more
      p m (rw is at h) settled)
  field_follows together f inner inner' (texts u u' is is' less) follows at p m h settled =
      by_its_sort inner' at p m _ is' (strings_follow u u' is' less p m (rw is at h))
  field_follows together f inner inner' (texts_as_bytes u is is') follows at p m h settled =
      by_its_sort inner' at p m _ is' (strings_as_bytes u is' p m (rw is at h))
  field_follows together f inner inner' (bytes_as_texts is is') follows at p m h settled =
      by_its_sort inner' at p m _ is' (bytes_stay p m (rw is at h))
  field_follows together f inner inner' (all_bytes is is') follows at p m h settled =
      by_its_sort inner' at p m _ is' (bytes_stay p m (rw is at h))
  field_follows together f inner inner' (messages is is' names) follows at p m h settled =
      by_its_sort inner' at p m _ is' (messages_follow inner inner' f.type_name (follows names) at
      p m (rw is at h) settled)
  field_follows together f inner inner' (groups is is' names) follows at p m h settled =
      by_its_sort inner' at p m _ is' (groups_follow inner inner' f.type_name (follows names) at
      p m (rw is at h) settled)

-- ---- records

module _ (st : Strength) (together : Together) (new : Enter) where
  -- messages that go together, at one level
  abbrev AllFollow : Inner → Inner → Type 0
  AllFollow inner inner' = (o n : Option Text) → IsTrue (together o n) → (at : ℕ) (s : Extent)
      (fs : Fields) → inner at o s ≡ Ok fs → Settled new (declared_by (new n)) fs
      → inner' at n s ≡ Ok (seen st new (declared_by (new n)) fs)

  record_follows : (inner inner' : Inner) → AllFollow inner inner' → (d d' : Option Declared)
      → ((f g : Declared) → d ≡ Some f → d' ≡ Some g → Fits st new together f g)
      → (r : WireRecord) (m : Meaning) → meaning_of inner d r ≡ Ok m → MeaningSettled new d' m
      → meaning_of inner' d' r ≡ Ok (meaning_seen st new d' m)
  unfolding meaning_of
  record_follows inner inner' follow d None fits r m h settled = refl
  record_follows inner inner' follow None (Some g) fits r m h settled =
      absurd (subst (λ (z : Meaning). MeaningSettled new (Some g) z) (sym (ok_is unknown m h))
      settled)
  record_follows inner inner' follow (Some f) (Some g) fits r m h settled =
      field_follows st new g together f inner inner' (fits f g refl refl)
      (λ names. follow f.type_name g.type_name names) r.whole.start r.content m h settled

  fields_follow : (inner inner' : Inner) → AllFollow inner inner' → (old new' : FieldsByNumber)
      → ((k : ℕ) (f g : Declared) → old k ≡ Some f → new' k ≡ Some g → Fits st new together f g)
      → (rs : List WireRecord) (fs : Fields) → fields_of inner old rs ≡ Ok fs
      → Settled new new' fs → fields_of inner' new' rs ≡ Ok (seen st new new' fs)
  unfolding fields_of
  fields_follow inner inner' follow old new' fits [] fs h settled =
      ap (λ (z : Fields). Ok (seen st new new' z)) (ok_is no_fields fs h)
  fields_follow inner inner' follow old new' fits (r ∷ rs) fs h settled =
      let g = gave (meaning_of inner (old r.number) r) (λ (m : Meaning).
      fields_of inner old rs >>= λ (others : Fields).
      Ok (field r.number r.whole.bytes m others)) fs h in
      let k = gave (fields_of inner old rs)
      (λ (others : Fields). Ok (field r.number r.whole.bytes g.first others)) fs g.then in
      let is : field r.number r.whole.bytes g.first k.first ≡ fs = ok_is _ _ k.then in
      let parts : Settled new new' (field r.number r.whole.bytes g.first k.first) =
      subst (λ (z : Fields). Settled new new' z) (sym is) settled in
      let first = record_follows inner inner' follow (old r.number) (new' r.number)
      (fits r.number) r g.first g.is parts.0 in
      let later = fields_follow inner inner' follow old new' fits rs k.first k.is parts.1 in
      rw (first, later) (ap (λ (z : Fields). Ok (seen st new new' z)) is)

-- ---- messages

found_is : {A : Type 0} (at : ℕ) (o : Option A) (x : A) → found at o ≡ Ok x → o ≡ Some x
found_is at (Some y) x h = ap (λ (z : _). Some z) (ok_is y x h)
found_is at None x h = absurd (cc)

pub message_follows : (st : Strength) (together : Together) (old new : Enter)
    → Follows st together old new → (levels : ℕ) (o n : Option Text) → IsTrue (together o n)
    → (at : ℕ) (s : Extent) (fs : Fields) → message_within old levels at o s ≡ Ok fs
    → Settled new (declared_by (new n)) fs
    → message_within new levels at n s ≡ Ok (seen st new (declared_by (new n)) fs)
unfolding message_within
message_follows st together old new follows zero o n names at s fs h settled = absurd (cc)
message_follows st together old new follows (suc levels) o n names at s fs h settled =
    let g = gave (found at (old o)) (λ (declared : FieldsByNumber). on_wire (records_in s)
    >>= λ (rs : List WireRecord). fields_of (message_within old levels) declared rs) fs h in
    let k = gave (on_wire (records_in s)) (λ (rs : List WireRecord).
    fields_of (message_within old levels) g.first rs) fs g.then in
    let is : old o ≡ Some g.first = found_is at (old o) g.first g.is in
    let enters : new n ≡ Some (declared_by (new n)) = follows.enters o n names g.first is in
    let all = fields_follow st together new (message_within old levels) (message_within new levels)
    (λ o' n' names' at' s' fs' h' settled'.
    message_follows st together old new follows levels o' n' names' at' s' fs' h' settled')
    g.first (declared_by (new n)) (follows.fits o n names g.first is) k.first fs k.then settled in
    let there : (on_wire (records_in s) >>= λ (rs : List WireRecord).
    fields_of (message_within new levels) (declared_by (new n)) rs)
    ≡ Ok (seen st new (declared_by (new n)) fs) = rw k.is all in
    subst (λ (r : Option FieldsByNumber). (found at r >>= λ (declared : FieldsByNumber).
    on_wire (records_in s) >>= λ (rs : List WireRecord).
    fields_of (message_within new levels) declared rs)
    ≡ Ok (seen st new (declared_by (new n)) fs)) (sym enters) there
