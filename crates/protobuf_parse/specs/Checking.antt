-- Checks over real files.
use Rattle.std.specs.Prelude.{List, Result, Ok}
use Rattle.protobuf_parse_model.specs.Descriptors.{Text}
use Rattle.protobuf_parse_run.specs.declared.fault.RunFault.{RunFault}
use Rattle.protobuf_parse_run.specs.declared.log.ReadEntry.{ReadEntry}
use Rattle.protobuf_parse_run.specs.Run.{HaveTrees, MayAnswer, OrMemory}
use Rattle.protobuf_parse_check.specs.declared.report.Check.{Check}
use Rattle.protobuf_parse_check.specs.Reports.{ChecksAsTold, HaveOrderedLists}
use Rattle.protobuf_parse.specs.Includes.{AreNamed, StandsAtFirst}
use Rattle.protobuf_parse.specs.Folders.{MayFind}
use Rattle.protobuf_parse.specs.Parsers.{MayReadAnything, inputs_at}

-- the outcome of a check that is done
abbrev pub done : Check → Result Check RunFault
done check = Ok check

-- A check of these inputs by these names, whose imports are found in these includes and among
-- these bundled files, read some log and tells this.
pub record ChecksOverFolders (bundled : List (Text × Text)) (includes inputs names : List Text)
    (check : Check) : Type 0 where
  pub log : List ReadEntry
  pub trees : HaveTrees bundled log
  pub lists : HaveOrderedLists (inputs_at names inputs) bundled log
  pub told : ChecksAsTold (MayAnswer (MayFind includes) MayReadAnything) (inputs_at names inputs)
      bundled log (done check)

-- each input has its proto path, and this is what the check over them tells
abbrev pub IsCheckOfInputs : List (Text × Text) → List Text → List Text → Check → Type 0
IsCheckOfInputs bundled includes inputs check =
    (names : List Text) × AreNamed includes inputs names
    × ChecksOverFolders bundled includes inputs names check

-- No check: memory ran out, or the fault stands for the first input that gets no proto path.
abbrev pub TellsCheckFault : List Text → List Text → RunFault → Type 0
TellsCheckFault includes inputs f = OrMemory f (StandsAtFirst includes inputs f)
