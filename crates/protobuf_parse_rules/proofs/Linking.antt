-- Links from files to those whose types they name, one after the other.
use Rattle.std.proofs.Common.{◌≡◌, Bool, true, false, cond, List, [], ◌∷◌, ◌++◌, refl, sym, ap, ◌∙◌}
use Rattle.std.proofs.Common.{Option, Some, None, ℕ, arith}
use Rattle.std.specs.Prelude.{◌&&◌, ◌||◌, bytes_eq}
use Rattle.std.specs.BTreeMap.{is_at}
use Rattle.std.specs.BTreeSet.{BTreeSet}
use Rattle.std.specs.Cmp.Lexicographic.{slice_cmp}
use Rattle.std.specs.List.{list_any}
use Rattle.std.specs.Option.{option_map_or}
use Rattle.std.specs.Ordering.{nat_cmp, ordering_then, is_eq}
use Rattle.std.specs.declared.cmp.Ordering.{Ordering}
use Rattle.std.specs.declared.cmp.Ordering.TheVariants.{Less, Equal, Greater}
use Rattle.std.proofs.lemmas.Bool.Decides.{nat_tests}
use Rattle.std.proofs.lemmas.List.Folds.{list_any-append}
use Rattle.std.proofs.lemmas.Map.Text.{is_eq-slice_cmp}
use Rattle.std.proofs.lemmas.Slice.Eq.{bytes_eq-Decides}
use Rattle.protobuf_parse_model.specs.Descriptors.{Text}
use Rattle.protobuf_parse_rules.specs.Imports.{declared_in, is_enum_of, is_message_of}
use Rattle.protobuf_parse_rules.specs.Imports.{names_there}
use Rattle.protobuf_parse_rules.specs.KnownUses.{Adds, AddsNames, KeyedLink, Link, has_link}
use Rattle.protobuf_parse_rules.specs.KnownUses.{hash_of_both, keyed_link, keyed_link_cmp, link_cmp}
use Rattle.protobuf_parse_rules.specs.Lookups.{NamedEnum, NamedMessage, enum_named, message_named}
use Rattle.protobuf_parse_rules.specs.Bodies.{BodyParts}

-- ---- truth values

or_false : (b : Bool) → (b || false) ≡ b
or_false true = refl
or_false false = refl

pub and_false : (b : Bool) → (b && false) ≡ false
and_false true = refl
and_false false = refl

or_assoc : (a b c : Bool) → ((a || b) || c) ≡ (a || (b || c))
or_assoc true b c = refl
or_assoc false b c = refl

and_or : (f p q : Bool) → ((f && p) || (f && q)) ≡ (f && (p || q))
and_or true p q = refl
and_or false p q = refl

pub cond_or : (b old : Bool) → cond b true old ≡ (old || b)
cond_or true true = refl
cond_or true false = refl
cond_or false true = refl
cond_or false false = refl

-- ---- one link

is_eq-then : (o p : Ordering) → is_eq (ordering_then o p) ≡ (is_eq o && is_eq p)
is_eq-then Less p = refl
is_eq-then Equal p = refl
is_eq-then Greater p = refl

-- whether two links are one
same_link : (a b : Link)
    → is_eq (link_cmp a b) ≡ (bytes_eq a.0.now b.0.now && bytes_eq a.1.now b.1.now)
same_link a b =
    is_eq-then (slice_cmp nat_cmp a.0.now b.0.now) (slice_cmp nat_cmp a.1.now b.1.now)
    ∙ ap (λ z. z && is_eq (slice_cmp nat_cmp a.1.now b.1.now)) (is_eq-slice_cmp a.0.now b.0.now)
    ∙ ap (λ z. bytes_eq a.0.now b.0.now && z) (is_eq-slice_cmp a.1.now b.1.now)

pub same_number : (n : ℕ) → is_eq (nat_cmp n n) ≡ true
same_number n = grind (arith, nat_tests)

-- equal texts have one hash
with_hash : (a b c d : Text) (p q : Bool) → bytes_eq a c ≡ p → bytes_eq b d ≡ q
    → (is_eq (nat_cmp (hash_of_both a b) (hash_of_both c d)) && (p && q)) ≡ (p && q)
with_hash a b c d true true e f =
    ap (λ (x : Text). is_eq (nat_cmp (hash_of_both a b) (hash_of_both x d)) && true)
    (sym ((bytes_eq-Decides a c).0 e))
    ∙ ap (λ (x : Text). is_eq (nat_cmp (hash_of_both a b) (hash_of_both a x)) && true)
    (sym ((bytes_eq-Decides b d).0 f))
    ∙ ap (λ t. t && true) (same_number (hash_of_both a b))
with_hash a b c d true false e f =
    and_false (is_eq (nat_cmp (hash_of_both a b) (hash_of_both c d)))
with_hash a b c d false q e f =
    and_false (is_eq (nat_cmp (hash_of_both a b) (hash_of_both c d)))

-- the same behind their hashes
pub same_keyed : (a b : Link) → is_at (keyed_link_cmp (keyed_link a)) (keyed_link b)
    ≡ (bytes_eq a.0.now b.0.now && bytes_eq a.1.now b.1.now)
same_keyed a b =
    let hashes = nat_cmp (hash_of_both a.0.now a.1.now) (hash_of_both b.0.now b.1.now) in
    is_eq-then hashes (link_cmp a b)
    ∙ ap (λ z. is_eq hashes && z) (same_link a b)
    ∙ with_hash a.0.now a.1.now b.0.now b.1.now _ _ refl refl

-- ---- more of them

pub adds_more : (a b c : BTreeSet KeyedLink) (p q r : Link → Bool) → Adds a b p → Adds b c q
    → ((k : Link) → (p k || q k) ≡ r k) → Adds a c r
adds_more a b c p q r first second both k =
    second k ∙ ap (λ z. z || q k) (first k) ∙ or_assoc (has_link a k) (p k) (q k)
    ∙ ap (λ z. has_link a k || z) (both k)

adds_none : (a : BTreeSet KeyedLink) (p : Link → Bool) → ((k : Link) → p k ≡ false) → Adds a a p
adds_none a p none k = sym (ap (λ z. has_link a k || z) (none k)
    ∙ or_false (has_link a k))

module _ (all : List BodyParts) where
  pub names_none : (a : BTreeSet KeyedLink) (file : Text) → AddsNames all a a file []
  names_none a file = adds_none a (λ (k : Link). names_there all file [] k.0.now k.1.now)
      (λ k. and_false (bytes_eq file k.0.now))

  pub names_more : (a b c : BTreeSet KeyedLink) (file : Text) (xs ys : List Text)
      → AddsNames all a b file xs → AddsNames all b c file ys → AddsNames all a c file (xs ++ ys)
  names_more a b c file xs ys first second =
      adds_more a b c (λ (k : Link). names_there all file xs k.0.now k.1.now)
      (λ (k : Link). names_there all file ys k.0.now k.1.now)
      (λ (k : Link). names_there all file (xs ++ ys) k.0.now k.1.now) first second
      (λ k. and_or (bytes_eq file k.0.now) (list_any (declared_in all k.1.now) xs)
      (list_any (declared_in all k.1.now) ys)
      ∙ ap (λ z. bytes_eq file k.0.now && z)
      (sym (list_any-append (declared_in all k.1.now) xs ys)))

  -- the files of the message and of the enum that have a name
  abbrev pub of_message_named : (file name : Text) → Link → Bool
  of_message_named file name k = bytes_eq file k.0.now && is_message_of all k.1.now name

  abbrev pub of_enum_named : (file name : Text) → Link → Bool
  of_enum_named file name k = bytes_eq file k.0.now && is_enum_of all k.1.now name

  pub name_added : (a b c : BTreeSet KeyedLink) (file name : Text)
      → Adds a b (of_message_named file name) → Adds b c (of_enum_named file name)
      → AddsNames all a c file (name ∷ [])
  name_added a b c file name first second =
      adds_more a b c (of_message_named file name) (of_enum_named file name)
      (λ (k : Link). names_there all file (name ∷ []) k.0.now k.1.now) first second
      (λ k. and_or (bytes_eq file k.0.now) (is_message_of all k.1.now name)
      (is_enum_of all k.1.now name)
      ∙ ap (λ z. bytes_eq file k.0.now && z) (sym (or_false (declared_in all k.1.now name))))

  pub message_added : (a b : BTreeSet KeyedLink) (file name : Text) (m : NamedMessage)
      → Some m ≡ message_named all name
      → Adds a b (λ (k : Link). bytes_eq file k.0.now && bytes_eq m.file k.1.now)
      → Adds a b (of_message_named file name)
  message_added a b file name m found added k =
      added k ∙ ap (λ (o : Option NamedMessage). has_link a k || (bytes_eq file k.0.now
      && option_map_or (λ (x : NamedMessage). bytes_eq x.file k.1.now) o false)) found

  pub message_absent : (a : BTreeSet KeyedLink) (file name : Text) → None ≡ message_named all name
      → Adds a a (of_message_named file name)
  message_absent a file name none =
      adds_none a (of_message_named file name)
      (λ k. sym (ap (λ (o : Option NamedMessage). bytes_eq file k.0.now
      && option_map_or (λ (x : NamedMessage). bytes_eq x.file k.1.now) o false) none)
      ∙ and_false (bytes_eq file k.0.now))

  pub enum_added : (a b : BTreeSet KeyedLink) (file name : Text) (e : NamedEnum)
      → Some e ≡ enum_named all name
      → Adds a b (λ (k : Link). bytes_eq file k.0.now && bytes_eq e.file k.1.now)
      → Adds a b (of_enum_named file name)
  enum_added a b file name e found added k =
      added k ∙ ap (λ (o : Option NamedEnum). has_link a k || (bytes_eq file k.0.now
      && option_map_or (λ (x : NamedEnum). bytes_eq x.file k.1.now) o false)) found

  pub enum_absent : (a : BTreeSet KeyedLink) (file name : Text) → None ≡ enum_named all name
      → Adds a a (of_enum_named file name)
  enum_absent a file name none =
      adds_none a (of_enum_named file name)
      (λ k. sym (ap (λ (o : Option NamedEnum). bytes_eq file k.0.now
      && option_map_or (λ (x : NamedEnum). bytes_eq x.file k.1.now) o false) none)
      ∙ and_false (bytes_eq file k.0.now))
