-- What a name means in a scope.
--
-- A name with a dot before it means the declaration of that full name. Any other is looked up from
-- the innermost scope outward: it means the declaration whose full name is a front of the scope, a
-- dot and the name, for the longest such front. Which declarations a file sees is not said here:
-- they are given as a list. Protocol Buffers Language Guide, "Packages and Name Resolution"
-- (https://protobuf.dev).
use Rattle.std.specs.Prelude.{◌≡◌, ◌==◌, Bool, true, false, List, [], ◌∷◌, ◌++◌, Option, Some, None}
use Rattle.std.specs.Prelude.{bytes_eq, if◌then◌else◌, All}
use Rattle.std.specs.List.{find}
use Rattle.std.specs.Option.{option_or}
use Rattle.protobuf_parse_base.specs.Characters as char
use Rattle.protobuf_parse_base.specs.Names.{fronts}
use Rattle.protobuf_parse_model.specs.Descriptors.{Text}
use Rattle.protobuf_parse_model.specs.Faults.{Among}
use Rattle.protobuf_parse_model.specs.Declarations.{Scope, full_name, Declared}

-- such a name is a full name already
abbrev pub begins_with_dot : Text → Bool
begins_with_dot [] = false
begins_with_dot (b ∷ bs) = b == char.dot

-- the first declaration of the full name
abbrev pub declared : {A : Type 0} → List (Declared A) → Text → Option (Declared A)
declared ds name = find (λ d. bytes_eq d.name name) ds

-- what each full name is declared as
abbrev pub Meanings : Type 0 → Type 0
Meanings A = Text → Option (Declared A)

-- the declaration of the name in the first of the scopes that has one
abbrev pub declared_in_first : {A : Type 0} → Meanings A → Text → List Scope → Option (Declared A)
declared_in_first of name [] = None
declared_in_first of name (scope ∷ scopes) =
    option_or (of (full_name scope name)) (declared_in_first of name scopes)

-- what a name means in a scope
abbrev pub meant : {A : Type 0} → Meanings A → Scope → Text → Option (Declared A)
meant of scope name =
    if begins_with_dot name then of name else declared_in_first of name (fronts scope)

-- what the name means in the scope, where a file sees these declarations
abbrev pub meaning : {A : Type 0} → List (Declared A) → Scope → Text → Option (Declared A)
meaning ds scope name = meant (declared ds) scope name

-- ---- what the walk outward means

-- The declaration has the name in one of the scopes, and none before it has a declaration of that
-- name.
pub record IsFirst {A : Type 0} (ds : List (Declared A)) (name : Text) (scopes : List Scope)
    (d : Declared A) : Type 0 where
  pub longer : List Scope
  pub front : Scope
  pub shorter : List Scope
  pub stands : scopes ≡ longer ++ (front ∷ shorter)
  pub is_declared : Among ds d
  pub is_named : d.name ≡ full_name front name
  pub none_longer : All (λ scope. declared ds (full_name scope name) ≡ None) longer

-- What a relative name means is declared, and no longer front has such a declaration.
abbrev pub MeansTheLongest : Type 0 → Type 0
MeansTheLongest A = (ds : List (Declared A)) (scope : Scope) (name : Text) (d : Declared A)
    → begins_with_dot name ≡ false → meaning ds scope name ≡ Some d
    → IsFirst ds name (fronts scope) d

-- What has no meaning is declared in none of the fronts.
abbrev pub MeansNothing : Type 0 → Type 0
MeansNothing A = (ds : List (Declared A)) (scope : Scope) (name : Text)
    → begins_with_dot name ≡ false → meaning ds scope name ≡ None
    → All (λ front. declared ds (full_name front name) ≡ None) (fronts scope)

-- What an absolute name means is declared by that name.
abbrev pub MeansItself : Type 0 → Type 0
MeansItself A = (ds : List (Declared A)) (scope : Scope) (name : Text) (d : Declared A)
    → begins_with_dot name ≡ true → meaning ds scope name ≡ Some d → Among ds d × (d.name ≡ name)
