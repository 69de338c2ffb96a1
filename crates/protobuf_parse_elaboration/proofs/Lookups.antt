-- What look-up finds is declared in the longest front that has such a declaration.
use Rattle.std.proofs.Common.{◌≡◌, Bool, true, false, cond, List, [], ◌∷◌, Option, Some, None}
use Rattle.std.proofs.Common.{bytes_eq, refl, ap, subst, All}
use Rattle.std.specs.List.{find}
use Rattle.std.specs.Option.{option_or}
use Rattle.std.proofs.lemmas.List.Elements.{All-nil, All-cons}
use Rattle.std.proofs.lemmas.Slice.Eq.{bytes_eq-Decides}
use Rattle.protobuf_parse_base.specs.Names.{fronts}
use Rattle.protobuf_parse_model.specs.Descriptors.{Text}
use Rattle.protobuf_parse_model.specs.Faults.{Among, here, there}
use Rattle.protobuf_parse_model.specs.Declarations.{Scope, full_name, Declared}
use Rattle.protobuf_parse_model.specs.Lookup.{begins_with_dot, meaning, declared, declared_in_first}
use Rattle.protobuf_parse_model.specs.Lookup.{IsFirst, MeansTheLongest, MeansNothing, MeansItself}

-- what is found is one of the list and passes the test
pub found_is : {X : Type 0} (test : X → Bool) (xs : List X) (y : X) → find test xs ≡ Some y
    → Among xs y × (test y ≡ true)
found_is test [] y e = absurd cc
found_is test (x ∷ xs) y e = at (test x) refl e (found_is test xs y)
  where
    at : (b : Bool) → test x ≡ b → cond b (Some x) (find test xs) ≡ Some y
        → (find test xs ≡ Some y → Among xs y × (test y ≡ true))
        → Among (x ∷ xs) y × (test y ≡ true)
    at true h k rest = let p : x
        ≡ y = cc in (subst (λ z. Among (x ∷ xs) z) p here, subst (λ z. test z ≡ true) p h)
    at false h k rest = let f = rest k in (there f.0, f.1)

pub declared_is : {A : Type 0} (ds : List (Declared A)) (name : Text) (d : Declared A)
    → declared ds name ≡ Some d → Among ds d × (d.name ≡ name)
declared_is ds name d e =
    let f = found_is (λ (x : Declared _). bytes_eq x.name name) ds d e in
    (f.0, (bytes_eq-Decides d.name name).0 f.1)

-- the first of the scopes
pub first_is : {A : Type 0} (ds : List (Declared A)) (name : Text) (scopes : List Scope)
    (d : Declared A) → declared_in_first (declared ds) name scopes ≡ Some d
    → IsFirst ds name scopes d
first_is ds name [] d e = absurd cc
first_is {A} ds name (scope ∷ scopes) d e =
    at (declared ds (full_name scope name)) refl e (first_is ds name scopes d)
  where
    here_is : (x : Declared A) → declared ds (full_name scope name) ≡ Some x → x ≡ d
        → IsFirst ds name (scope ∷ scopes) d
    here_is x h p =
        let f = declared_is ds (full_name scope name) x h in
        record {
          longer = [];
          front = scope;
          shorter = scopes;
          stands = refl;
          is_declared =
              subst (λ z. Among ds z) p f.0;
          is_named =
              subst (λ (z : Declared A). z.name ≡ full_name scope name) p f.1;
          none_longer =
              All-nil (λ (s : Scope). declared ds (full_name s name) ≡ None);
        }

    later : declared ds (full_name scope name) ≡ None → IsFirst ds name scopes d
        → IsFirst ds name (scope ∷ scopes) d
    later h f =
        record {
          longer = scope ∷ f.longer;
          front = f.front;
          shorter = f.shorter;
          stands =
              ap (λ xs. scope ∷ xs) f.stands;
          is_declared = f.is_declared;
          is_named = f.is_named;
          none_longer =
              All-cons (λ (s : Scope). declared ds (full_name s name) ≡ None) scope f.longer h
              f.none_longer;
        }

    at : (o : Option (Declared A)) → declared ds (full_name scope name) ≡ o
        → option_or o (declared_in_first (declared ds) name scopes) ≡ Some d
        → (declared_in_first (declared ds) name scopes ≡ Some d → IsFirst ds name scopes d)
        → IsFirst ds name (scope ∷ scopes) d
    at None h k rest = later h (rest k)
    at (Some x) h k rest = here_is x h cc

pub none_is : {A : Type 0} (ds : List (Declared A)) (name : Text) (scopes : List Scope)
    → declared_in_first (declared ds) name scopes ≡ None
    → All (λ scope. declared ds (full_name scope name) ≡ None) scopes
none_is ds name [] e = All-nil (λ (s : Scope). declared ds (full_name s name) ≡ None)
none_is {A} ds name (scope ∷ scopes) e =
    at (declared ds (full_name scope name)) refl e (none_is ds name scopes)
  where
    at : (o : Option (Declared A)) → declared ds (full_name scope name) ≡ o
        → option_or o (declared_in_first (declared ds) name scopes) ≡ None
        → (declared_in_first (declared ds) name scopes ≡ None
        → All (λ s. declared ds (full_name s name) ≡ None) scopes)
        → All (λ s. declared ds (full_name s name) ≡ None) (scope ∷ scopes)
    at None h k rest =
        All-cons (λ (s : Scope). declared ds (full_name s name) ≡ None) scope scopes h (rest k)
    at (Some x) h k rest = absurd cc

-- what has a meaning is declared
pub meaning_declared : {A : Type 0} (ds : List (Declared A)) (scope : Scope) (name : Text)
    (d : Declared A) → meaning ds scope name ≡ Some d → Among ds d
meaning_declared ds scope name d e = at (begins_with_dot name) e
  where
    at : (b : Bool)
        → cond b (declared ds name) (declared_in_first (declared ds) name (fronts scope)) ≡ Some d
        → Among ds d
    at true k = (declared_is ds name d k).0
    at false k = (first_is ds name (fronts scope) d k).is_declared

-- ---- the laws

pub means_the_longest : (A : Type 0) → MeansTheLongest A
means_the_longest A ds scope name d relative e =
    first_is ds name (fronts scope) d (rw relative at e)

pub means_nothing : (A : Type 0) → MeansNothing A
means_nothing A ds scope name relative e = none_is ds name (fronts scope) (rw relative at e)

pub means_itself : (A : Type 0) → MeansItself A
means_itself A ds scope name d absolute e = declared_is ds name d (rw absolute at e)
