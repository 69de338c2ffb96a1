use Rattle.std.proofs.Common.{drop, map, string_bytes, Result, Option}
use Rattle.protobuf_parse_base.specs.PathViews.{path_text}
use Rattle.protobuf_parse_model.specs.Descriptors.{Text}
use Rattle.protobuf_parse_run.specs.declared.fault.ResolveFault.{ResolveFault}
use Rattle.protobuf_parse_run.specs.declared.source.ResolvedProtoFile.{ResolvedProtoFile}
use Rattle.protobuf_parse.specs.Folders.{IsFirstFound}
use Rattle.protobuf_parse.proofs.parser.search.first_found.Given as goal

-- What is found first in the includes that are left is found first in all.
abbrev pub invariant-loop-include : goal.invariant-loop-include
invariant-loop-include g l =
    let May = λ (include : Text) (answer : Result (Option ResolvedProtoFile) ResolveFault).
    g.L.LooksInIncludes.may_find l.looks include (path_text l.path) answer in
    (answer : Result (Option ResolvedProtoFile) ResolveFault)
    → IsFirstFound May (map string_bytes (drop l.include-index l.includes)) answer
    → IsFirstFound May (map string_bytes l.includes) answer
