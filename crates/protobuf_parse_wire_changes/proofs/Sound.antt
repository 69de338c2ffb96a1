-- Where no change is listed, new files follow the old ones.
use Rattle.std.proofs.Common.{◌≡◌, ℕ, ℤ, pos, Bool, true, false, cond, List, [], ◌∷◌, ◌++◌, Option}
use Rattle.std.proofs.Common.{Some, None, option_map, refl, sym, ap, subst, ◌∙◌}
use Rattle.std.specs.Prelude.{◌&&◌, find, is_some, bytes_eq}
use Rattle.std.specs.List.{flat_map}
use Rattle.std.specs.Option.{option_and_then, option_map_or, option_or}
use Rattle.std.specs.Ordering.{int_eq}
use Rattle.std.proofs.lemmas.Bool.Decides.{Decides-int_eq}
use Rattle.std.proofs.lemmas.Slice.Eq.{bytes_eq-Decides}
use Rattle.protobuf_parse_model.specs.Descriptors.{Text, FileDescriptor, FieldDescriptor}
use Rattle.protobuf_parse_model.specs.Descriptors.{MessageDescriptor, parts_seen}
use Rattle.protobuf_parse_wire.specs.Declarations.{extends}
use Rattle.protobuf_parse_index.specs.Lookups.{extension_numbered, field_numbered, field_with}
use Rattle.protobuf_parse_index.specs.Lookups.{message_named}
use Rattle.protobuf_parse_index.specs.Walk.{Standing, all_extensions, all_messages}
use Rattle.protobuf_parse_decode.specs.Declarations.{Declared, FieldsByNumber, declaration}
use Rattle.protobuf_parse_decode.specs.Declarations.{declared_in, entered, stands_in_proto3}
use Rattle.protobuf_parse_wire_changes.specs.declared.change.WireChangeKind.{WireChangeKind}
use Rattle.protobuf_parse_wire_changes.specs.Changes.{Comparison, Typed}
use Rattle.protobuf_parse_wire_changes.specs.Changes.{all_changes, change_at, change_if_both}
use Rattle.protobuf_parse_wire_changes.specs.Changes.{change_of, changes_at, comparison}
use Rattle.protobuf_parse_wire_changes.specs.Changes.{extendee_changes, extension_changes}
use Rattle.protobuf_parse_wire_changes.specs.Changes.{go_together, is_text, listed}
use Rattle.protobuf_parse_wire_changes.specs.Changes.{number_changes}
use Rattle.protobuf_parse_wire_changes.specs.Changes.{message_changes, typed_in}
use Rattle.protobuf_parse_wire_changes.specs.Laws.{OldBytesAreRead}
use Rattle.protobuf_parse_wire_changes.specs.Partners.{partner}
use Rattle.protobuf_parse_wire_changes.specs.Seen.{declared_by}
use Rattle.protobuf_parse_wire_changes.proofs.Following.{Fits, Follows, message_follows}
use Rattle.protobuf_parse_wire_changes.proofs.Pairing.{partner_declared}
use Rattle.protobuf_parse_wire_changes.proofs.Typing.{IsTyped, field_fits}

-- ---- what stands among the parts of an empty list

first_none : {A : Type 0} (xs ys : List A) → xs ++ ys ≡ [] → xs ≡ []
first_none [] ys h = refl
first_none (x ∷ xs) ys h = absurd (cc)

others_none : {A : Type 0} (xs ys : List A) → xs ++ ys ≡ [] → ys ≡ []
others_none [] ys h = h
others_none (x ∷ xs) ys h = absurd (cc)

in_find : {X A : Type 0} (p : X → Bool) (g : X → List A) (xs : List X) (m : X)
    → find p xs ≡ Some m → flat_map g xs ≡ [] → (g m ≡ []) × (p m ≡ true)
in_find p g [] m is none = absurd (cc)
in_find {X = X} p g (x ∷ xs) m is none =
    by_test (p x) refl is
    (λ e. in_find p g xs m e (others_none (g x) (flat_map g xs) none))
  where
    by_test : (b : Bool) → p x ≡ b → cond b (Some x) (find p xs) ≡ Some m
        → (find p xs ≡ Some m → (g m ≡ []) × (p m ≡ true)) → (g m ≡ []) × (p m ≡ true)
    by_test true passes e later =
        let same : x ≡ m = cc in
        subst (λ (y : X). (g y ≡ []) × (p y ≡ true)) same
        (first_none (g x) (flat_map g xs) none, passes)
    by_test false passes e later = later e

both : (a b : Bool) → (a && b) ≡ true → (a ≡ true) × (b ≡ true)
both true b e = (refl, e)
both false b e = absurd (cc)

some_is : {A : Type 0} (a b : A) → ◌≡◌ {A = Option A} (Some a) (Some b) → a ≡ b
some_is a b h = cc

-- ---- messages and fields by the files

-- a message that is declared, with its fields
record Entered (files : List FileDescriptor) (name : Text) (declared : FieldsByNumber)
    : Type 0 where
  pub message : Standing MessageDescriptor
  pub found : message_named files name ≡ Some message
  pub fields : declared_in files name ≡ declared

old_entered : (files : List FileDescriptor) (name : Text) (declared : FieldsByNumber)
    → entered files (Some name) ≡ Some declared → Entered files name declared
unfolding entered
old_entered files name declared h = by_found (message_named files name) refl h
  where
    by_found : (o : Option (Standing MessageDescriptor)) → message_named files name ≡ o
        → option_map (λ (m : Standing MessageDescriptor). declared_in files name) o ≡ Some declared
        → Entered files name declared
    by_found (Some m) e k = record {
      message = m;
      found = e;
      fields = some_is (declared_in files name) declared k;
    }
    by_found None e k = absurd (cc)

pub new_entered : (files : List FileDescriptor) (name : Text)
    → is_some (message_named files name) ≡ true
    → entered files (Some name) ≡ Some (declared_in files name)
unfolding entered
new_entered files name h = by_found (message_named files name) h
  where
    by_found : (o : Option (Standing MessageDescriptor)) → is_some o ≡ true
        → option_map (λ (m : Standing MessageDescriptor). declared_in files name) o
        ≡ Some (declared_in files name)
    by_found (Some m) e = refl
    by_found None e = absurd (cc)

-- a field by its declaration, with its type
record TypedAs (files : List FileDescriptor) (message : Text) (k : ℕ) (f : Declared) : Type 0 where
  pub field : FieldDescriptor
  pub found : field_numbered files message (pos k) ≡ Some field
  pub typed : Typed
  pub is : typed_in files message (pos k) ≡ Some typed
  pub declared : typed.declared ≡ f
  pub sorted : IsTyped typed

typed_as : (files : List FileDescriptor) (message : Text) (k : ℕ) (f : Declared)
    → declared_in files message k ≡ Some f → TypedAs files message k f
unfolding declared_in
typed_as files message k f h = by_found (field_numbered files message (pos k)) refl h
  where
    by_found : (o : Option FieldDescriptor) → field_numbered files message (pos k) ≡ o
        → option_map (declaration files message (pos k)) o ≡ Some f → TypedAs files message k f
    by_found (Some d) e j = record {
      field = d;
      found = e;
      typed = record { type_ = d.type_; declared = declaration files message (pos k) d };
      is = ap (λ (o : Option FieldDescriptor). option_map
          (λ (f : FieldDescriptor).
          record { type_ = f.type_; declared = declaration files message (pos k) f }) o) e;
      declared = some_is (declaration files message (pos k) d) f j;
      sorted = record { utf8 = stands_in_proto3 files message (pos k) d; is = refl };
    }
    by_found None e j = absurd (cc)

-- ---- numbers without changes

module _ (c : Comparison) (none : all_changes c ≡ []) where
  -- no change of that number
  abbrev Unchanged : Text → ℤ → Type 0
  Unchanged a z = number_changes c a z ≡ []

  own_unchanged : (a : Text) (z : ℤ) (m : Standing MessageDescriptor) (d : FieldDescriptor)
      → message_named c.old a ≡ Some m → field_with z (parts_seen m.what).field ≡ Some d
      → Unchanged a z
  own_unchanged a z m d named is =
      let all : flat_map (message_changes c) (all_messages c.old) ≡ [] =
      first_none (flat_map (message_changes c) (all_messages c.old))
      (flat_map (extension_changes c) (all_extensions c.old)) none in
      let of_message = in_find (λ (x : Standing MessageDescriptor). bytes_eq a x.name)
      (message_changes c) (all_messages c.old) m named all in
      let of_field = in_find (λ (f : FieldDescriptor). int_eq z f.number)
      (λ (f : FieldDescriptor). number_changes c m.name f.number)
      (parts_seen m.what).field d is of_message.0 in
      let name : a ≡ m.name = (bytes_eq-Decides a m.name).0 of_message.1 in
      let number : z ≡ d.number = (Decides-int_eq z d.number).0 of_field.1 in
      subst (λ (x : Text). Unchanged x z) (sym name)
      (subst (λ (y : ℤ). Unchanged m.name y) (sym number) of_field.0)

  extendee_is : (a : Text) (o : Option Text) → option_map_or (bytes_eq a) o false ≡ true
      → o ≡ Some a
  extendee_is a None h = absurd (cc)
  extendee_is a (Some b) h = ap (λ (t : Text). Some t) (sym ((bytes_eq-Decides a b).0 h))

  extension_unchanged : (a : Text) (z : ℤ) (e : Standing FieldDescriptor)
      → extension_numbered c.old a z ≡ Some e → Unchanged a z
  extension_unchanged a z e is =
      let all : flat_map (extension_changes c) (all_extensions c.old) ≡ [] =
      others_none (flat_map (message_changes c) (all_messages c.old))
      (flat_map (extension_changes c) (all_extensions c.old)) none in
      let one = in_find
      (λ (e : Standing FieldDescriptor). extends a e.what && int_eq z e.what.number)
      (extension_changes c) (all_extensions c.old) e is all in
      let parts = both (extends a e.what) (int_eq z e.what.number) one.1 in
      let number : z ≡ e.what.number = (Decides-int_eq z e.what.number).0 parts.1 in
      subst (λ (y : ℤ). Unchanged a y) (sym number)
      (subst (λ (o : Option Text). extendee_changes c o e.what.number ≡ [])
      (extendee_is a e.what.extendee parts.0) one.0)

  unchanged : (a : Text) (z : ℤ) (m : Standing MessageDescriptor) (d : FieldDescriptor)
      → message_named c.old a ≡ Some m → field_numbered c.old a z ≡ Some d → Unchanged a z
  unchanged a z m d named is =
      by_own (field_with z (parts_seen m.what).field) refl
      (extension_numbered c.old a z) refl
      (ap (λ (o : Option (Standing MessageDescriptor)). option_or
      (option_and_then
      (λ (m : Standing MessageDescriptor). field_with z (parts_seen m.what).field) o)
      (option_map (λ (e : Standing FieldDescriptor). e.what) (extension_numbered c.old a z)))
      (sym named) ∙ is)
    where
      by_own : (o : Option FieldDescriptor) → field_with z (parts_seen m.what).field ≡ o
          → (p : Option (Standing FieldDescriptor)) → extension_numbered c.old a z ≡ p
          → option_or o (option_map (λ (e : Standing FieldDescriptor). e.what) p) ≡ Some d
          → Unchanged a z
      by_own (Some f) e p e' h = own_unchanged a z m f named e
      by_own None e (Some x) e' h = extension_unchanged a z x e'
      by_own None e None e' h = absurd (cc)

  -- ---- messages that go together

  listed_none : (a b : Text) (z : ℤ) (o : Option WireChangeKind) → listed a b z o ≡ [] → o ≡ None
  listed_none a b z None h = refl
  listed_none a b z (Some k) h = absurd (cc)

  partners_fit : (a b : Text) → c.partners a ≡ Some b → (m : Standing MessageDescriptor)
      → message_named c.old a ≡ Some m → (k : ℕ) (f g : Declared)
      → declared_in c.old a k ≡ Some f → declared_in c.new b k ≡ Some g
      → Fits c.strength (entered c.new) (go_together c.partners) f g
  partners_fit a b goes m named k f g is is' =
      let one = typed_as c.old a k f is in
      let other = typed_as c.new b k g is' in
      let still : listed a b (pos k) (change_at c a b (pos k)) ≡ [] =
      subst (λ (o : Option Text). changes_at c a o (pos k) ≡ []) goes
      (unchanged a (pos k) m one.field named one.found) in
      let at : change_at c a b (pos k) ≡ None =
      listed_none a b (pos k) (change_at c a b (pos k)) still in
      let same : change_of c one.typed other.typed ≡ None =
      ap (λ (o : Option Typed). change_if_both c o (Some other.typed)) (sym one.is)
      ∙ ap (λ (o : Option Typed). change_if_both c (typed_in c.old a (pos k)) o) (sym other.is)
      ∙ at in
      subst (λ (x : Declared). Fits c.strength (entered c.new) (go_together c.partners) x g)
      one.declared
      (subst (λ (y : Declared).
      Fits c.strength (entered c.new) (go_together c.partners) one.typed.declared y)
      other.declared
      (field_fits c (entered c.new) one.typed other.typed one.sorted other.sorted same))

  text_is : (o : Option Text) (t : Text) → is_text o t ≡ true → o ≡ Some t
  text_is None t h = absurd (cc)
  text_is (Some s) t h = ap (λ (x : Text). Some x) ((bytes_eq-Decides s t).0 h)

  -- each message that goes with one is declared
  abbrev pub HasPartners : Type 0
  HasPartners = (a b : Text) → c.partners a ≡ Some b → is_some (message_named c.new b) ≡ true

  new_fields : HasPartners → (a b : Text) → c.partners a ≡ Some b
      → entered c.new (Some b) ≡ Some (declared_in c.new b)
  new_fields has a b goes = new_entered c.new b (has a b goes)

  enters : HasPartners → (o n : Option Text) → go_together c.partners o n ≡ true
      → entered c.new n ≡ Some (declared_by (entered c.new n))
  enters has None n names = absurd (cc)
  enters has (Some a) None names = absurd (cc)
  enters has (Some a) (Some b) names =
      let e = new_fields has a b (text_is (c.partners a) b names) in
      e ∙ ap (λ (o : Option FieldsByNumber). Some (declared_by o)) (sym e)

  fit : HasPartners → (o n : Option Text) → go_together c.partners o n ≡ true
      → (declared : FieldsByNumber) → entered c.old o ≡ Some declared → (k : ℕ) (f g : Declared)
      → declared k ≡ Some f → declared_by (entered c.new n) k ≡ Some g
      → Fits c.strength (entered c.new) (go_together c.partners) f g
  fit has None n names declared e k f g is is' = absurd (cc)
  fit has (Some a) None names declared e k f g is is' = absurd (cc)
  fit has (Some a) (Some b) names declared e k f g is is' =
      let goes = text_is (c.partners a) b names in
      let old = old_entered c.old a declared e in
      let new = new_fields has a b goes in
      partners_fit a b goes old.message old.found k f g
      (ap (λ (d : FieldsByNumber). d k) old.fields ∙ is)
      (ap (λ (o : Option FieldsByNumber). declared_by o k) (sym new) ∙ is')

  pub follows : HasPartners
      → Follows c.strength (go_together c.partners) (entered c.old) (entered c.new)
  follows has = record {
    enters = λ o n names declared e. enters has o n names;
    fits = λ o n names declared e k f g is is'. fit has o n names declared e k f g is is';
  }

-- ---- the law

pub old_bytes_are_read : OldBytesAreRead
old_bytes_are_read st old new none o n bs fs goes h settled =
    let c : Comparison = comparison st old new in
    let names : is_text (partner old new o) n ≡ true =
    ap (λ (x : Option Text). is_text x n) goes ∙ (bytes_eq-Decides n n).1 refl in
    message_follows st (go_together (partner old new)) (entered old) (entered new)
    (follows c none (partner_declared old new)) 100 (Some o) (Some n) names 0
    (record { start = 0; bytes = bs }) fs h settled
