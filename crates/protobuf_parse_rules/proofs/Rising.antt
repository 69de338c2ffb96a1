-- Messages whose numbers ascend, and which have names of their own.
use Rattle.std.proofs.Common.{◌≡◌, ℕ, ℤ, pos, Bool, true, false, cond, not, ◌||◌, List, [], ◌∷◌}
use Rattle.std.proofs.Common.{◌++◌}
use Rattle.std.proofs.Common.{map, refl, ap, subst, ◌∙◌, append-nil, arith, Some, None, inl, inr}
use Rattle.std.proofs.Math.Dec.{eqb}
use Rattle.std.specs.Prelude.{◌&&◌, int_lt}
use Rattle.std.specs.Int.Signed.{<ℤ_irrefl}
use Rattle.std.specs.List.{IsDistinct, AllByRecursion, flat_map, list_any}
use Rattle.std.proofs.lemmas.Bool.{cases_Bool}
use Rattle.std.proofs.lemmas.Int.{ints}
use Rattle.std.proofs.lemmas.List.{map-append}
use Rattle.std.proofs.lemmas.List.Folds.{list_any-append}
use Rattle.std.proofs.lemmas.Map.Keys.{IsDistinct-head, IsDistinct-tail}
use Rattle.protobuf_parse_model.specs.Descriptors.{Text, FieldDescriptor}
use Rattle.protobuf_parse_rules.specs.Ascending.{ascend_from, is_mixed, message_scopes, scopes_in}
use Rattle.protobuf_parse_rules.specs.Claims.{Claim, Thing, conflict, conflicts, first_claim}
use Rattle.protobuf_parse_rules.specs.Claims.{same_thing}
use Rattle.protobuf_parse_rules.specs.Customs.{are_any}
use Rattle.protobuf_parse_rules.specs.Keys.{text_key}
use Rattle.protobuf_parse_rules.specs.Numbers.{claim_of, claims, extension_claims, field_claims}
use Rattle.protobuf_parse_rules.specs.Numbers.{number_rule}
use Rattle.protobuf_parse_rules.specs.Bodies.{Content, BodyParts, extensions_of, fields_of, of_file}
use Rattle.protobuf_parse_rules.specs.Bodies.{of_message}
use Rattle.protobuf_parse_rules.proofs.Claiming.{conflicts-append, thing_is}
use Rattle.protobuf_parse_rules.proofs.Covering.{is_below, is_not_below}
use Rattle.protobuf_parse_rules.proofs.Lone.{eqb_same}

-- ---- tests

left : (a b : Bool) → (a || b) ≡ false → a ≡ false
left false b e = refl
left true b e = absurd cc

right : (a b : Bool) → (a || b) ≡ false → b ≡ false
right false b e = e
right true b e = absurd cc

either : (a b : Bool) → a ≡ false → b ≡ false → (a || b) ≡ false
either false b p q = q
either true b p q = absurd cc

first : (a b : Bool) → (a && b) ≡ true → a ≡ true
first true b e = refl
first false b e = absurd cc

second : (a b : Bool) → (a && b) ≡ true → b ≡ true
second true b e = e
second false b e = absurd cc

both : (a b : Bool) → a ≡ true → b ≡ true → (a && b) ≡ true
both true b p q = q
both false b p q = absurd cc

no_more : (a b : Bool) → (b ≡ true → a ≡ true) → a ≡ false → b ≡ false
no_more a true h e = let never = h refl in absurd cc
no_more a false h e = refl

no_left : (a b : Bool) → a ≡ false → (a && b) ≡ false
no_left false b e = refl
no_left true b e = absurd cc

no_right : (a b : Bool) → b ≡ false → (a && b) ≡ false
no_right false b e = refl
no_right true b e = e

no_self : (n : ℤ) → int_lt n n ≡ false
no_self n = elim (cases_Bool (int_lt n n)) [
  | inl e ↦ absurd (<ℤ_irrefl (is_below n n e))
  | inr e ↦ e
]

farther : (a b c : ℤ) → int_lt a b ≡ true → int_lt b c ≡ true → int_lt a c ≡ true
farther a b c p q = elim (cases_Bool (int_lt a c)) [
  | inl e ↦ e
  | inr e ↦
      let one = is_below a b p in
      let two = is_below b c q in
      let other = is_not_below a c e in
      absurd (omega (arith, ints))
]

-- ---- claims of a message, behind others

module _ (scope : Text) where
  -- a claim of what has the message's key, above that number
  abbrev is_above : ℤ → Claim → Bool
  is_above last b = eqb (text_key b.thing.name) (text_key scope) && int_lt last b.thing.number

  fresh : (last : ℤ) (before : List Claim) (t : Thing) → list_any (is_above last) before ≡ false
      → int_lt last t.number ≡ true → t.name ≡ scope → first_claim before t ≡ None
  fresh last [] t none up named = refl
  fresh last (b ∷ bs) t none up named =
      ap (λ s. cond s (Some b) (first_claim bs t))
      (no_more (is_above last b) (same_thing b.thing t) same
      (left (is_above last b) (list_any (is_above last) bs) none))
      ∙ fresh last bs t (right (is_above last b) (list_any (is_above last) bs) none) up named
    where
      same : same_thing b.thing t ≡ true → is_above last b ≡ true
      same e = both (eqb (text_key b.thing.name) (text_key scope)) (int_lt last b.thing.number)
          (eqb_same (text_key b.thing.name) (text_key scope)
          (ap (λ (x : Thing). text_key x.name) (thing_is b.thing t e) ∙ ap text_key named))
          (ap (λ (x : Thing). int_lt last x.number) (thing_is b.thing t e) ∙ up)

  -- no claim above a number is above a greater one
  higher : (last n : ℤ) (before : List Claim) → list_any (is_above last) before ≡ false
      → int_lt last n ≡ true → list_any (is_above n) before ≡ false
  higher last n [] none up = refl
  higher last n (b ∷ bs) none up =
      either (is_above n b) (list_any (is_above n) bs)
      (no_more (is_above last b) (is_above n b) above
      (left (is_above last b) (list_any (is_above last) bs) none))
      (higher last n bs (right (is_above last b) (list_any (is_above last) bs) none) up)
    where
      above : is_above n b ≡ true → is_above last b ≡ true
      above e = both (eqb (text_key b.thing.name) (text_key scope)) (int_lt last b.thing.number)
          (first (eqb (text_key b.thing.name) (text_key scope)) (int_lt n b.thing.number) e)
          (farther last n b.thing.number up
          (second (eqb (text_key b.thing.name) (text_key scope)) (int_lt n b.thing.number) e))

  module _ (file : Text) where
    fields_apart : (last : ℤ) (before : List Claim) (fs : List FieldDescriptor)
        → list_any (is_above last) before ≡ false → ascend_from last fs ≡ true
        → conflicts number_rule before (field_claims file scope fs) ≡ []
    fields_apart last before [] none up = refl
    fields_apart last before (f ∷ fs) none up =
        let c : Claim = claim_of file scope scope f in
        let now = first (int_lt last f.number) (ascend_from f.number fs) up in
        ap (λ o. conflict number_rule c o
        ++ conflicts number_rule (before ++ c ∷ []) (field_claims file scope fs))
        (fresh last before c.thing none now refl)
        ∙ fields_apart f.number (before ++ c ∷ []) fs
        (list_any-append (is_above f.number) before (c ∷ [])
        ∙ either (list_any (is_above f.number) before) (is_above f.number c || false)
        (higher last f.number before none now)
        (either (is_above f.number c) false
        (no_right (eqb (text_key scope) (text_key scope)) (int_lt f.number f.number)
        (no_self f.number)) refl))
        (second (int_lt last f.number) (ascend_from f.number fs) up)

-- ---- claims of messages, by keys of their names

abbrev has_key : ℕ → Claim → Bool
has_key k b = eqb (text_key b.thing.name) k

-- none of the claims has one of the keys
abbrev AreNew : List Claim → List ℕ → Type 0
AreNew before keys = AllByRecursion (λ k. list_any (has_key k) before ≡ false) keys

none_above : (scope : Text) (before : List Claim)
    → list_any (has_key (text_key scope)) before ≡ false
    → list_any (is_above scope (pos 0)) before ≡ false
none_above scope [] e = refl
none_above scope (b ∷ bs) e =
    either (is_above scope (pos 0) b) (list_any (is_above scope (pos 0)) bs)
    (no_left (has_key (text_key scope) b) (int_lt (pos 0) b.thing.number)
    (left (has_key (text_key scope) b) (list_any (has_key (text_key scope)) bs) e))
    (none_above scope bs
    (right (has_key (text_key scope) b) (list_any (has_key (text_key scope)) bs) e))

other_keys : (file scope : Text) (k : ℕ) (fs : List FieldDescriptor)
    → eqb (text_key scope) k ≡ false
    → list_any (has_key k) (field_claims file scope fs) ≡ false
other_keys file scope k [] e = refl
other_keys file scope k (f ∷ fs) e =
    either (eqb (text_key scope) k) (list_any (has_key k) (field_claims file scope fs)) e
    (other_keys file scope k fs e)

more_new : (file scope : Text) (before : List Claim) (fs : List FieldDescriptor) (keys : List ℕ)
    → AreNew before keys → AllByRecursion (λ k. eqb (text_key scope) k ≡ false) keys
    → AreNew (before ++ field_claims file scope fs) keys
more_new file scope before fs [] new other = tt
more_new file scope before fs (k ∷ ks) new other = (
  list_any-append (has_key k) before (field_claims file scope fs)
      ∙ either (list_any (has_key k) before)
      (list_any (has_key k) (field_claims file scope fs)) new.0
      (other_keys file scope k fs other.0),
  more_new file scope before fs ks new.1 other.1,
)

-- where nothing is extended
none_extended : (p : BodyParts) (es : List FieldDescriptor) → are_any es ≡ false
    → extension_claims p.file p.scope es ≡ []
none_extended p [] e = refl
none_extended p (x ∷ xs) e = absurd cc

only_fields : (p : BodyParts) → is_mixed p ≡ false
    → claims p ≡ field_claims p.file p.scope (fields_of p.content)
only_fields p e =
    ap (λ cs. field_claims p.file p.scope (fields_of p.content) ++ cs)
    (none_extended p (extensions_of p.content)
    (left (are_any (extensions_of p.content))
    (not (ascend_from (pos 0) (fields_of p.content))) e))
    ∙ append-nil (field_claims p.file p.scope (fields_of p.content))

untrue : (b : Bool) → not b ≡ false → b ≡ true
untrue true e = refl
untrue false e = absurd cc

ascending : (p : BodyParts) → is_mixed p ≡ false → ascend_from (pos 0) (fields_of p.content) ≡ true
ascending p e = untrue (ascend_from (pos 0) (fields_of p.content))
    (right (are_any (extensions_of p.content))
    (not (ascend_from (pos 0) (fields_of p.content))) e)

-- those of one body, and then of others
one_more : (file scope : Text) (content : Content) (before rest : List Claim) (keys : List ℕ)
    → ascend_from (pos 0) (fields_of content) ≡ true
    → IsDistinct eqb (map text_key (scopes_in scope content) ++ keys)
    → AreNew before (map text_key (scopes_in scope content) ++ keys)
    → ((more : List Claim) → IsDistinct eqb keys → AreNew more keys
    → conflicts number_rule more rest ≡ [])
    → conflicts number_rule before (field_claims file scope (fields_of content))
    ++ conflicts number_rule (before ++ field_claims file scope (fields_of content)) rest ≡ []
one_more file scope (of_message m) before rest keys up apart new next =
    ap (λ bs. bs ++ conflicts number_rule (before ++ field_claims file scope m.field) rest)
    (fields_apart scope file (pos 0) before m.field (none_above scope before new.0) up)
    ∙ next (before ++ field_claims file scope m.field)
    (IsDistinct-tail eqb (text_key scope) keys apart)
    (more_new file scope before m.field keys new.1
    (IsDistinct-head eqb (text_key scope) keys apart))
one_more file scope (of_file f) before rest keys up apart new next =
    ap (λ cs. conflicts number_rule cs rest) (append-nil before) ∙ next before apart new

rising : (before : List Claim) (ps : List BodyParts) → list_any is_mixed ps ≡ false
    → IsDistinct eqb (map text_key (flat_map message_scopes ps))
    → AreNew before (map text_key (flat_map message_scopes ps))
    → conflicts number_rule before (flat_map claims ps) ≡ []
rising before [] e apart new = refl
rising before (p ∷ ps) e apart new =
    let own = left (is_mixed p) (list_any is_mixed ps) e in
    let rest = right (is_mixed p) (list_any is_mixed ps) e in
    let keys = map-append text_key (message_scopes p) (flat_map message_scopes ps) in
    conflicts-append number_rule before (claims p) (flat_map claims ps)
    ∙ ap (λ cs. conflicts number_rule before cs
    ++ conflicts number_rule (before ++ cs) (flat_map claims ps)) (only_fields p own)
    ∙ one_more p.file p.scope p.content before (flat_map claims ps)
    (map text_key (flat_map message_scopes ps)) (ascending p own)
    (subst (IsDistinct eqb) keys apart) (subst (AreNew before) keys new)
    (λ more more_apart more_new. rising more ps rest more_apart more_new)

pub rising_apart : (ps : List BodyParts) → list_any is_mixed ps ≡ false
    → IsDistinct eqb (map text_key (flat_map message_scopes ps))
    → conflicts number_rule [] (flat_map claims ps) ≡ []
rising_apart ps e apart =
    rising [] ps e apart (all_new (map text_key (flat_map message_scopes ps)))
  where
    all_new : (keys : List ℕ) → AreNew [] keys
    all_new [] = tt
    all_new (k ∷ ks) = (refl, all_new ks)
