-- No public clause rests on this file.
-- What is wrong in an option, and which of it a failure tells: the first.
use Rattle.std.specs.Prelude.{◌≡◌, List, [], ◌∷◌, Result, Ok, Err, string_bytes}
use Rattle.protobuf_parse_model.specs.Faults.{Wrong}
use Rattle.protobuf_parse_options.specs.declared.refuse.OptionError.{OptionError}
use Rattle.protobuf_parse_options.specs.declared.refuse.OptionFailure.{OptionFailure}
use Rattle.protobuf_parse_options.specs.declared.refuse.OptionFailure.TheVariants as failure

abbrev pub wrong_view : OptionError → Wrong
wrong_view e = record { kind = e.kind; what = string_bytes e.what }

abbrev pub IsFirst : List Wrong → Wrong → Type 0
IsFirst [] w = ⊥
IsFirst (x ∷ xs) w = x ≡ w

-- the failure tells the first of these, unless memory ran out
abbrev pub Refuses : OptionFailure → List Wrong → Type 0
Refuses failure.Memory wrongs = Unit {0}
Refuses (failure.Wrong e) wrongs = IsFirst wrongs (wrong_view e)

-- where nothing is wrong the result, seen by view, is the value; else it tells what is wrong first
abbrev pub Gives : {X Y : Type 0} → (X → Y) → Result X OptionFailure → List Wrong → Y → Type 0
Gives view (Ok x) wrongs value = (wrongs ≡ []) × (view x ≡ value)
Gives view (Err e) wrongs value = Refuses e wrongs
