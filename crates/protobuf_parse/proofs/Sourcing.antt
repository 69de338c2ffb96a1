-- Runs that are kept with their reads, and source info that is made file by file.
use Rattle.std.proofs.Common.{List, [], ◌∷◌, ◌++◌, Result, Ok, Err}
use Rattle.std.specs.Prelude.{IfErr}
use Rattle.protobuf_parse_model.specs.Descriptors.{FileDescriptor}
use Rattle.protobuf_parse_run.specs.declared.fault.RunFault.{RunFault}
use Rattle.protobuf_parse_source_info.specs.declared.info.SourceCodeInfo.{SourceCodeInfo}
use Rattle.protobuf_parse.specs.Outcomes.{files_of_run}
use Rattle.protobuf_parse.specs.SourceInfo.{AreInfosOf, IsInfoOf}
use Rattle.protobuf_parse.specs.declared.parser.builder.LoggedRun.{LoggedRun}

-- what holds of a fault of the descriptors holds of the run's
pub caused-run : (P : RunFault → Type 0) (r : Result LoggedRun RunFault)
    → IfErr (files_of_run r) P → IfErr r P
caused-run P (Ok run) h = h
caused-run P (Err f) h = h

-- the source info of one file more
pub infos-push : (reached fs : List FileDescriptor) (is : List SourceCodeInfo) (f : FileDescriptor)
    (i : SourceCodeInfo) → AreInfosOf reached fs is → IsInfoOf reached f i
    → AreInfosOf reached (fs ++ f ∷ []) (is ++ i ∷ [])
infos-push reached [] [] f i h k = (k, tt)
infos-push reached [] (j ∷ js) f i h k = absurd h
infos-push reached (g ∷ gs) [] f i h k = absurd h
infos-push reached (g ∷ gs) (j ∷ js) f i h k = (h.0, infos-push reached gs js f i h.1 k)
