-- The faults that stand in a file, each with its place, and which of them an answer tells.
--
-- What is wrong in a construct is said by its definition; where the construct becomes a part of
-- another, its faults are placed: at the statement that declares it, or at the option that is
-- wrong.
use Rattle.std.specs.Prelude.{◌≡◌, ℕ, List, [], ◌∷◌, map, Result, Ok, Err, string_bytes}
use Rattle.std.specs.Global.{Vec}
use Rattle.protobuf_parse_lexer.specs.declared.lexer.token.Place.{Place}
use Rattle.protobuf_parse_model.specs.declared.error.ElabErrorKind.{ElabErrorKind}
use Rattle.protobuf_parse_model.specs.declared.error.ElabError.{ElabError}
use Rattle.protobuf_parse_model.specs.declared.error.ElabFailure.{ElabFailure}
use Rattle.protobuf_parse_model.specs.declared.error.ElabFailure.TheVariants as failure

-- what is wrong, and the text that it speaks of
pub record Wrong : Type 0 where
  pub kind : ElabErrorKind
  pub what : List ℕ

-- the same, and where it stands
pub record Fault : Type 0 where
  pub place : Place
  pub wrong : Wrong

-- what is wrong in a statement stands at its place
abbrev pub placed : Place → List Wrong → List Fault
placed place wrongs = map (λ (w : Wrong). record { place = place; wrong = w }) wrongs

-- what the Rust value says
abbrev pub fault_view : ElabError → Fault
fault_view e = record {
  place = e.place;
  wrong = record { kind = e.kind; what = string_bytes e.what };
}

-- the faults that were told
abbrev pub found : Vec ElabError → List Fault
found faults = map fault_view faults.items

-- the value stands in the list
pub data Among {A : Type 0} : List A → A → Type 0 where
  here : {x : A} {xs : List A} → Among (x ∷ xs) x
  there : {x y : A} {xs : List A} → Among xs x → Among (y ∷ xs) x

-- the failure tells one of the faults, unless memory ran out
abbrev pub Blames : ElabFailure → List Fault → Type 0
Blames failure.Memory faults = Unit {0}
Blames (failure.Fault e) faults = Among faults (fault_view e)

-- where no fault stands the result is `Ok`; else it tells a fault that stands
abbrev pub Passes : Result (Unit {0}) ElabFailure → List Fault → Type 0
Passes (Ok u) faults = faults ≡ []
Passes (Err e) faults = Blames e faults

-- the value is the first of the list
abbrev pub IsFirst : {A : Type 0} → List A → A → Type 0
IsFirst [] x = ⊥
IsFirst (y ∷ ys) x = x ≡ y

-- the failure tells the first of the faults, unless memory ran out
abbrev pub TellsFirst : ElabFailure → List Fault → Type 0
TellsFirst failure.Memory faults = Unit {0}
TellsFirst (failure.Fault e) faults = IsFirst faults (fault_view e)

-- where no fault stands the result, seen by view, is the value; else it tells the first of them
abbrev pub Elaborates : {X Y : Type 0} → (X → Y) → Result X ElabFailure → List Fault → Y → Type 0
Elaborates view (Ok x) faults value = (faults ≡ []) × (view x ≡ value)
Elaborates view (Err e) faults value = TellsFirst e faults
