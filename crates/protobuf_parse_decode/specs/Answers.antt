-- What bytes mean, or the first thing that is wrong with them.
use Rattle.std.specs.Prelude.{◌≡◌, ℕ, Option, Some, None, Result, Ok, Err}
use Rattle.protobuf_parse_records.specs.declared.fault.Fault.{Fault}
use Rattle.protobuf_parse_records.specs.declared.fault.RecordsError.{RecordsError}
use Rattle.protobuf_parse_records.specs.declared.fault.RecordsError.TheVariants as records
use Rattle.protobuf_parse_decode.specs.declared.fault.DecodeFaultKind.{DecodeFaultKind}
use Rattle.protobuf_parse_decode.specs.declared.fault.DecodeFaultKind.TheVariants as kind
use Rattle.protobuf_parse_decode.specs.declared.fault.DecodeFault.{DecodeFault}
use Rattle.protobuf_parse_decode.specs.declared.fault.DecodeError.{DecodeError}
use Rattle.protobuf_parse_decode.specs.declared.fault.DecodeError.TheVariants as error

-- what the bytes mean, or the fault, with its offset
abbrev pub Answer : Type 0 → Type 0
Answer X = Result X DecodeFault

-- that kind of fault at that offset
abbrev pub fault : {A : Type 0} → ℕ → DecodeFaultKind → Answer A
fault at what = Err (record { at = at; kind = what })

-- what was looked for, or that there is no such message
abbrev pub found : {A : Type 0} → ℕ → Option A → Answer A
found at (Some x) = Ok x
found at None = fault at kind.NoSuchMessage

-- ---- records

-- a fault of records
abbrev pub record_fault : Fault → DecodeFault
record_fault f = record { at = f.at; kind = kind.NoRecords f.kind }

-- an answer of records
abbrev pub on_wire : {A : Type 0} → Result A Fault → Answer A
on_wire (Ok x) = Ok x
on_wire (Err f) = Err (record_fault f)

-- an error of records
abbrev pub error_of : RecordsError → DecodeError
error_of records.Memory = error.Memory
error_of (records.Fault f) = error.Fault (record_fault f)

-- ---- functions

-- A function's error is this answer: its fault. Of want of memory nothing is said.
abbrev pub Fails : {B : Type 0} → DecodeError → Answer B → Type 0
Fails error.Memory answer = Unit {0}
Fails (error.Fault f) answer = answer ≡ Err f

-- A function's result, its value seen by `view`, is this answer, unless memory runs out.
abbrev pub Gives : {A B : Type 0} → (A → B) → Result A DecodeError → Answer B → Type 0
Gives view (Ok x) answer = answer ≡ Ok (view x)
Gives view (Err e) answer = Fails e answer
