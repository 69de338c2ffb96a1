-- What a call adds to the faults that were told.
use Rattle.std.specs.Prelude.{◌≡◌, List, ◌++◌, Result, OnOk}
use Rattle.std.specs.Global.{Vec}
use Rattle.protobuf_parse_model.specs.declared.error.ElabError.{ElabError}
use Rattle.protobuf_parse_model.specs.Faults.{Fault, found}

-- unless memory runs out, just these, behind those that were told
abbrev pub Tells : {X E : Type 0} → Result X E → (old new : Vec ElabError) → List Fault → Type 0
Tells result old new faults = OnOk result (found new ≡ found old ++ faults)
