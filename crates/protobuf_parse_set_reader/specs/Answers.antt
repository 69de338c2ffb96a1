-- What bytes say, or the first thing that is wrong with them.
use Rattle.std.specs.Prelude.{◌≡◌, ℕ, Result, Ok, Err}
use Rattle.protobuf_parse_records.specs.declared.fault.Fault.{Fault}
use Rattle.protobuf_parse_records.specs.declared.fault.RecordsError.{RecordsError}
use Rattle.protobuf_parse_records.specs.declared.fault.RecordsError.TheVariants as records
use Rattle.protobuf_parse_set_reader.specs.declared.fault.SetFaultKind.{SetFaultKind}
use Rattle.protobuf_parse_set_reader.specs.declared.fault.SetFaultKind.TheVariants as kind
use Rattle.protobuf_parse_set_reader.specs.declared.fault.SetFault.{SetFault}
use Rattle.protobuf_parse_set_reader.specs.declared.fault.SetError.{SetError}
use Rattle.protobuf_parse_set_reader.specs.declared.fault.SetError.TheVariants as error

-- what the bytes say, or the fault, with its offset
abbrev pub Answer : Type 0 → Type 0
Answer X = Result X SetFault

-- that kind of fault at that offset
abbrev pub fault : {A : Type 0} → ℕ → SetFaultKind → Answer A
fault at what = Err (record { at = at; kind = what })

-- ---- records

-- a fault of records
abbrev pub wire_fault : Fault → SetFault
wire_fault f = record { at = f.at; kind = kind.Wire f.kind }

-- the answer of records
abbrev pub on_wire : {A : Type 0} → Result A Fault → Answer A
on_wire (Ok x) = Ok x
on_wire (Err f) = Err (wire_fault f)

-- an error of records
abbrev pub error_of : RecordsError → SetError
error_of records.Memory = error.Memory
error_of (records.Fault f) = error.Fault (wire_fault f)

-- ---- functions

-- A function's error is this answer: its fault. Of want of memory nothing is said.
abbrev pub Fails : {B : Type 0} → SetError → Answer B → Type 0
Fails error.Memory answer = Unit {0}
Fails (error.Fault f) answer = answer ≡ Err f

-- A function's result, its value seen by `view`, is this answer, unless memory runs out.
abbrev pub Gives : {A B : Type 0} → (A → B) → Result A SetError → Answer B → Type 0
Gives view (Ok x) answer = answer ≡ Ok (view x)
Gives view (Err e) answer = Fails e answer
