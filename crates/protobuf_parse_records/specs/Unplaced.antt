-- No public clause rests on this file.
-- Answers whose faults have no offset yet.
use Rattle.std.specs.Prelude.{◌≡◌, Result, Ok, Err}
use Rattle.protobuf_parse_records.specs.declared.fault.FaultKind.{FaultKind}

-- A function's result, its value seen by `view`, is this answer. No memory is taken.
abbrev pub GivesPlainly : {A B : Type 0} → (A → B) → Result A FaultKind → Result B FaultKind
    → Type 0
GivesPlainly view (Ok x) answer = answer ≡ Ok (view x)
GivesPlainly view (Err e) answer = answer ≡ Err e
