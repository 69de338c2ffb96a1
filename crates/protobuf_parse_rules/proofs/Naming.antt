-- A map of things by their names that grows.
use Rattle.std.proofs.Common.{◌≡◌, ℕ, Bool, true, false, cond, List, [], ◌∷◌, ◌++◌, refl, sym, ap}
use Rattle.std.proofs.Common.{◌∙◌}
use Rattle.std.proofs.Common.{Option, Some, None}
use Rattle.std.proofs.Common.{subst}
use Rattle.std.specs.Prelude.{◌&&◌, option_map, find, bytes_eq, is_some}
use Rattle.std.specs.Cmp.Lexicographic.{slice_cmp}
use Rattle.std.specs.Ordering.{nat_cmp, is_eq}
use Rattle.std.specs.Option.{option_copied, option_or}
use Rattle.std.specs.Borrow.{Bor}
use Rattle.std.specs.BTreeMap.{BTreeMap, IsEmpty, get, is_at, Updates}
use Rattle.std.specs.Map.{lookup}
use Rattle.std.proofs.lemmas.List.Folds.{find-append}
use Rattle.std.proofs.lemmas.Slice.Eq.{bytes_eq-Decides}
use Rattle.std.proofs.lemmas.Map.Text.{is_eq-slice_cmp}
use Rattle.protobuf_parse_model.specs.ByHash.{hash_of}
use Rattle.protobuf_parse_model.specs.Descriptors.{EnumDescriptor, Text}
use Rattle.protobuf_parse_rules.specs.Lookups.{NamedEnum, NamedMessage}
use Rattle.protobuf_parse_rules.specs.Bodies.{Content}
use Rattle.protobuf_parse_rules.specs.Known.{Finds, Keyed, keyed, keyed_cmp}
use Rattle.protobuf_parse_rules.proofs.Claiming.{is_eq-then, or_none}
use Rattle.protobuf_parse_rules.proofs.Linking.{and_false, same_number}

some_found : {V X : Type 0} (view : V → X) (o : V) (first : Option X)
    → option_map view (Some o) ≡ first → is_some first ≡ true
some_found view o None e = absurd cc
some_found view o (Some y) e = refl

none_found : {V X : Type 0} (view : V → X) (first : Option X)
    → option_map view None ≡ first → first ≡ None
none_found view first e = sym e

stays : {X : Type 0} (c : X) (first : Option X) (b : Bool) → (b ≡ true → is_some first ≡ true)
    → option_or first (cond b (Some c) None) ≡ first
stays c (Some x) b e = refl
stays c None false e = refl
stays c None true e = let never = e refl in absurd cc

-- ---- texts behind their keys

with_key : (a b : Text) (t : Bool) → bytes_eq a b ≡ t
    → (is_eq (nat_cmp (hash_of a) (hash_of b)) && t) ≡ t
with_key a b true e =
    ap (λ (x : Text). is_eq (nat_cmp (hash_of a) (hash_of x)) && true)
    (sym ((bytes_eq-Decides a b).0 e))
    ∙ ap (λ t. t && true) (same_number (hash_of a))
with_key a b false e = and_false (is_eq (nat_cmp (hash_of a) (hash_of b)))

-- whether two are one
same_keyed : (a b : Bor (List ℕ)) → is_at (keyed_cmp (keyed a)) (keyed b) ≡ bytes_eq a.now b.now
same_keyed a b =
    is_eq-then (nat_cmp (hash_of a.now) (hash_of b.now)) (slice_cmp nat_cmp a.now b.now)
    ∙ ap (λ t. is_eq (nat_cmp (hash_of a.now) (hash_of b.now)) && t)
    (is_eq-slice_cmp a.now b.now)
    ∙ with_key a.now b.now (bytes_eq a.now b.now) refl

module _ {V X : Type 0} (view : V → X) (name : X → Text) (m : BTreeMap Keyed V)
    (xs : List X) (key : Bor (List ℕ)) (behind : Keyed) (is : behind ≡ keyed key) (x : X)
    (named : name x ≡ key.now) (finds : Finds view name m xs) where
  -- a name that equals the key finds the same
  alike : (k : Bor (List ℕ)) → bytes_eq (name x) k.now ≡ true
      → find (λ (y : X). bytes_eq (name y) k.now) xs
      ≡ find (λ (y : X). bytes_eq (name y) key.now) xs
  alike k e = ap (λ (t : Text). find (λ (y : X). bytes_eq (name y) t) xs)
      (sym (sym named ∙ (bytes_eq-Decides (name x) k.now).0 e))

  one_more : (k : Bor (List ℕ)) → find (λ (y : X). bytes_eq (name y) k.now) (xs ++ x ∷ [])
      ≡ option_or (find (λ (y : X). bytes_eq (name y) k.now) xs)
      (cond (bytes_eq (name x) k.now) (Some x) None)
  one_more k = find-append (λ (y : X). bytes_eq (name y) k.now) xs (x ∷ [])

  found_there : (o : Option V) → get keyed_cmp m behind ≡ o
      → option_map view o ≡ find (λ (y : X). bytes_eq (name y) key.now) xs
  found_there o e =
      ap (option_map view) (sym e ∙ ap (get keyed_cmp m) is) ∙ finds.at key

  -- one thing more of a name that is there already
  pub finds_held : (o : V) → get keyed_cmp m behind ≡ Some o → Finds view name m (xs ++ x ∷ [])
  finds_held o held = record {
    at = λ k.
        finds.at k
        ∙ sym (one_more k ∙ stays x _ (bytes_eq (name x) k.now)
        (λ e. ap is_some (alike k e) ∙ some_found view o _ (found_there (Some o) held)));
  }

  by_test : (v : V) (b : Bool) (old : Option V) (first : Option X) → view v ≡ x
      → option_map view old ≡ first → (b ≡ true → first ≡ None)
      → option_map view (cond b (Some v) old) ≡ option_or first (cond b (Some x) None)
  by_test v true old first same e none = rw (none refl) (ap Some same)
  by_test v false old first same e none = e ∙ sym (or_none first)

  -- one thing more of a name that was not there, put in
  pub finds_new : (n : BTreeMap Keyed V) (v : V) → view v ≡ x
      → get keyed_cmp m behind ≡ None → Updates keyed_cmp m n behind (Some v)
      → Finds view name n (xs ++ x ∷ [])
  finds_new n v same absent put = record {
    at = λ k.
        let updates = subst (λ (b : Keyed). Updates keyed_cmp m n b (Some v)) is put in
        ap (option_map view) (updates.0 (keyed k))
        ∙ ap (λ b. option_map view (cond b (Some v) (get keyed_cmp m (keyed k))))
        (same_keyed key k ∙ ap (λ (t : Text). bytes_eq t k.now) (sym named))
        ∙ by_test v (bytes_eq (name x) k.now) (get keyed_cmp m (keyed k)) _ same (finds.at k)
        (λ e. alike k e ∙ none_found view _ (found_there None absent))
        ∙ sym (one_more k);
  }

pub finds_nothing : {V X : Type 0} (view : V → X) (name : X → Text)
    (m : BTreeMap Keyed V) → IsEmpty m → Finds view name m []
finds_nothing view name m empty = record {
  at = λ k. ap (λ es. option_map view (lookup (is_at (keyed_cmp (keyed k))) es)) empty;
}

-- what is found behind a key
pub found_copied : {V X : Type 0} (view : V → X) (name : X → Text) (m : BTreeMap Keyed V)
    (xs : List X) (key : Bor (List ℕ)) (behind : Keyed) (o : Option V) → behind ≡ keyed key
    → o ≡ get keyed_cmp m behind → Finds view name m xs
    → option_map view o ≡ find (λ (x : X). bytes_eq (name x) key.now) xs
found_copied view name m xs key behind o is there finds =
    ap (option_map view) (there ∙ ap (get keyed_cmp m) is) ∙ finds.at key

pub found_behind : {V X : Type 0} (view : V → X) (name : X → Text) (m : BTreeMap Keyed V)
    (xs : List X) (key : Bor (List ℕ)) (behind : Keyed) (r : Option (Bor V)) → behind ≡ keyed key
    → option_copied r ≡ get keyed_cmp m behind → Finds view name m xs
    → option_map (λ (b : Bor V). view b.now) r ≡ find (λ (x : X). bytes_eq (name x) key.now) xs
found_behind view name m xs key behind None is there finds =
    found_copied view name m xs key behind None is there finds
found_behind view name m xs key behind (Some b) is there finds =
    found_copied view name m xs key behind (Some b.now) is there finds

pub same_message : (a b : NamedMessage) → a.file ≡ b.file → a.name ≡ b.name → a.what ≡ b.what
    → a ≡ b
same_message a b p q r =
    ap (λ (f : Text). let m : NamedMessage = record {
      file = f;
      name = a.name;
      what = a.what;
    } in m) p
    ∙ ap (λ (n : Text). let m : NamedMessage = record {
      file = b.file;
      name = n;
      what = a.what;
    } in m) q
    ∙ ap (λ (w : Content). let m : NamedMessage = record {
      file = b.file;
      name = b.name;
      what = w;
    } in m) r

pub same_enum : (a b : NamedEnum) → a.file ≡ b.file → a.name ≡ b.name → a.proto3 ≡ b.proto3
    → a.what ≡ b.what → a ≡ b
same_enum a b o p q r =
    ap (λ (f : Text). let e : NamedEnum = record {
      file = f;
      name = a.name;
      proto3 = a.proto3;
      what = a.what;
    } in e) o
    ∙ ap (λ (n : Text). let e : NamedEnum = record {
      file = b.file;
      name = n;
      proto3 = a.proto3;
      what = a.what;
    } in e) p
    ∙ ap (λ (t : Bool). let e : NamedEnum = record {
      file = b.file;
      name = b.name;
      proto3 = t;
      what = a.what;
    } in e) q
    ∙ ap (λ (w : EnumDescriptor). let e : NamedEnum = record {
      file = b.file;
      name = b.name;
      proto3 = b.proto3;
      what = w;
    } in e) r
