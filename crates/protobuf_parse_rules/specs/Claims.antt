-- What at most one may have: each claim of it after the first is told.
use Rattle.std.specs.Prelude.{ℤ, Bool, ◌&&◌, List, [], ◌∷◌, ◌++◌, find, Option}
use Rattle.std.specs.Prelude.{Some, None, bytes_eq}
use Rattle.std.specs.Ordering.{int_eq}
use Rattle.protobuf_parse_model.specs.Descriptors.{Text}
use Rattle.protobuf_parse_rules.specs.Rules.{Breach, Broken, breaches_at}
use Rattle.protobuf_parse_rules.specs.declared.kind.NamedKind.{NamedKind}

-- what only one may have: a number of what has the name, or a name of number 0; in a scope, or in
-- none
pub record Thing : Type 0 where
  pub number : ℤ
  pub name : Text
  pub scope : Text

-- a construct, by the path of its file, its full name and its number; where full names are claimed,
-- by what it is
pub record Who : Type 0 where
  pub file : Text
  pub name : Text
  pub number : ℤ
  pub kind : Option NamedKind

-- that a construct has the thing
pub record Claim : Type 0 where
  pub thing : Thing
  pub who : Who

-- whether both are one
abbrev pub same_thing : Thing → Thing → Bool
same_thing a b = (int_eq a.number b.number && bytes_eq a.name b.name) && bytes_eq a.scope b.scope

-- the first of the claims of that thing
abbrev pub first_claim : List Claim → Thing → Option Claim
first_claim claims thing = find (λ (c : Claim). same_thing c.thing thing) claims

-- what a claim breaks where another one has claimed the same first
abbrev pub Rules : Type 0
Rules = Claim → Who → Option Broken

-- what a claim breaks, where this one claimed the same before
abbrev pub taken : Rules → Claim → Who → List Breach
taken rules c other =
    breaches_at (record { file = c.who.file; construct = c.who.name }) (rules c other ∷ [])

-- what it breaks, where this is the first claim of the same, if there is one
abbrev pub conflict : Rules → Claim → Option Claim → List Breach
conflict rules c None = []
conflict rules c (Some first) = taken rules c first.who

-- each claim of what one of those before it claims
abbrev pub conflicts : Rules → (before : List Claim) → List Claim → List Breach
conflicts rules before [] = []
conflicts rules before (c ∷ cs) =
    conflict rules c (first_claim before c.thing) ++ conflicts rules (before ++ c ∷ []) cs
