-- What a resolver gives that refuses nothing, and what may then be wrong in a run.
use Rattle.std.specs.Prelude.{Option, Result, Ok, Err}
use Rattle.protobuf_parse_run.specs.declared.fault.ResolveFault.{ResolveFault}
use Rattle.protobuf_parse_run.specs.declared.fault.ResolveFault.TheVariants as refused
use Rattle.protobuf_parse_run.specs.declared.fault.RunFault.{RunFault}
use Rattle.protobuf_parse_run.specs.declared.fault.RunFault.TheVariants as fault
use Rattle.protobuf_parse_run.specs.declared.source.ResolvedProtoFile.{ResolvedProtoFile}

-- a file, none, or want of memory
abbrev pub IsGiven : Result (Option ResolvedProtoFile) ResolveFault → Type 0
IsGiven (Ok file) = Unit {0}
IsGiven (Err refused.Memory) = Unit {0}
IsGiven (Err why) = ⊥

-- neither the fault of a resolver nor that of a reader
abbrev pub IsOfTheFiles : RunFault → Type 0
IsOfTheFiles (fault.Resolver path why) = ⊥
IsOfTheFiles (fault.CouldNotReadFile path why) = ⊥
IsOfTheFiles f = Unit {0}
