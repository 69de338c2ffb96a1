use Rattle.std.proofs.Common.{◌≡◌, ◌++◌, map}
use Rattle.std.specs.List.{AllByRecursion}
use Rattle.protobuf_parse_load.specs.declared.log.LoadedFile.{LoadedFile}
use Rattle.protobuf_parse_load.specs.Loads.{IsLoadedFile}
use Rattle.protobuf_parse_load.specs.Steps.{closed_paths}
use Rattle.protobuf_parse_check.specs.Judging.{HasCuts}
use Rattle.protobuf_parse_check.specs.Reports.{Checked, read_files}
use Rattle.protobuf_parse_check.specs.SoFar.{AreFew, BeginsIndex, IsOrdered, IsSoFar, TellsNames}
use Rattle.protobuf_parse_check.proofs.Finishing.{path_of}
use Rattle.protobuf_parse_check.proofs.check.judged_files.Given as goal

abbrev pub invariant-loop-file : goal.invariant-loop-file
invariant-loop-file l = AreFew l.file-iterator.rest.items × TellsNames l.judge
    × BeginsIndex l.judge
    × (l.yielded ++ l.file-iterator.rest.items ≡ l.fn.files.items)
    × ((c : Checked) → IsOrdered c → HasCuts c.steps l.cuts
    → closed_paths c.steps ≡ map path_of (l.yielded ++ l.file-iterator.rest.items)
    → AllByRecursion (λ (f : LoadedFile). IsLoadedFile (read_files c) (path_of f) f)
    (l.yielded ++ l.file-iterator.rest.items)
    → IsSoFar c l.judge (map path_of l.yielded) (map path_of l.file-iterator.rest.items))
