-- Runs with a table of bundled files, and with the files that this library brings.
use Rattle.std.specs.Prelude.{List, Result}
use Rattle.std.specs.Global.{Vec}
use Rattle.protobuf_parse_model.specs.Descriptors.{Text}
use Rattle.protobuf_parse_model.specs.declared.descriptor.FileDescriptorProto.{FileDescriptorProto}
use Rattle.protobuf_parse_run.specs.declared.fault.RunFault.{RunFault}
use Rattle.protobuf_parse_run.specs.declared.log.ReadEntry.{ReadEntry}
use Rattle.protobuf_parse_run.specs.Walks.{Input}
use Rattle.protobuf_parse_run.specs.Run.{AreAskedOnce, HaveLists, HaveTrees, MayAnswer, MayRead}
use Rattle.protobuf_parse_run.specs.Run.{MayResolve, RunsAsTold, shipped}
use Rattle.protobuf_parse_run.specs.ReadBack.{OptionsAreReadable}
use Rattle.protobuf_parse_run.specs.Recovered.{OptionsAreHeld}

-- A run over these inputs with this table of bundled files, whose resolver and reader may answer
-- so, read some log and ended so.
pub record RunsWithTable (resolve : MayResolve) (read : MayRead) (table : List (Text × Text))
    (inputs : List Input) (result : Result (Vec FileDescriptorProto) RunFault) : Type 0 where
  pub log : List ReadEntry
  pub trees : HaveTrees table log
  pub lists : HaveLists table log
  pub told : RunsAsTold (MayAnswer resolve read) inputs table log result
  pub once : AreAskedOnce (MayAnswer resolve read) inputs table log
  pub options : OptionsAreHeld inputs table log result
  pub readable : OptionsAreReadable inputs table log result

-- a reader that is never asked: there is no answer that it may give
abbrev pub IsNeverAsked : MayRead
IsNeverAsked own answer = ⊥

-- all inputs are found by the resolver, and the table has the files that this library brings
abbrev pub RunsByResolver : MayResolve → List Input → Result (Vec FileDescriptorProto) RunFault
    → Type 0
RunsByResolver resolve inputs result = RunsWithTable resolve IsNeverAsked shipped inputs result
