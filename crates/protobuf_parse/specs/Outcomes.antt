-- No public clause rests on this file.
-- What runs and checks over folders answer, or that memory ran out.
use Rattle.std.specs.Prelude.{◌≡◌, List, Result, Ok, Err}
use Rattle.std.specs.Global.{Vec}
use Rattle.protobuf_parse_model.specs.Descriptors.{Text}
use Rattle.protobuf_parse_model.specs.declared.descriptor.FileDescriptorProto.{FileDescriptorProto}
use Rattle.protobuf_parse_run.specs.declared.fault.RunFault.{RunFault}
use Rattle.protobuf_parse_run.specs.declared.fault.RunFault.TheVariants as fault
use Rattle.protobuf_parse_run.specs.Run.{OrMemory}
use Rattle.protobuf_parse_check.specs.declared.report.Check.{Check}
use Rattle.protobuf_parse.specs.Checking.{ChecksOverFolders}
use Rattle.protobuf_parse.specs.Parsers.{RunsOverFolders}
use Rattle.protobuf_parse.specs.declared.parser.builder.LoggedRun.{LoggedRun}

-- or memory ran out
abbrev pub CheckedOverFolders : List (Text × Text) → List Text → List Text → List Text
    → Result Check RunFault → Type 0
CheckedOverFolders bundled includes inputs names (Ok check) =
    ChecksOverFolders bundled includes inputs names check
CheckedOverFolders bundled includes inputs names (Err f) = f ≡ fault.Memory

-- or memory ran out
abbrev pub RanOverFolders : List (Text × Text) → List Text → List Text → List Text
    → Result (Vec FileDescriptorProto) RunFault → Type 0
RanOverFolders bundled includes inputs names (Ok files) =
    RunsOverFolders bundled includes inputs names (Ok files)
RanOverFolders bundled includes inputs names (Err f) =
    OrMemory f (RunsOverFolders bundled includes inputs names (Err f))

-- the descriptors of a run that is kept with its reads, or its fault
abbrev pub files_of_run : Result LoggedRun RunFault → Result (Vec FileDescriptorProto) RunFault
files_of_run (Ok run) = Ok run.files
files_of_run (Err f) = Err f
