use Rattle.std.proofs.Common.{◌≡◌, ◌++◌, List, map, string_bytes, take}
use Rattle.protobuf_parse_syntax.specs.Trees.{FileSyntax, file_syntax}
use Rattle.protobuf_parse_model.specs.Faults.{found}
use Rattle.protobuf_parse_model.specs.Tables.{TableTells}
use Rattle.protobuf_parse_check.specs.Judging.{repeats_over}
use Rattle.protobuf_parse_check.proofs.repeats.tell_names.Given as goal

abbrev pub invariant-loop-name : goal.invariant-loop-name
invariant-loop-name l = (files : List FileSyntax) → TableTells l.seen.declarations.now files
    → found l.faults ≡ found l.initial.faults
    ++ repeats_over l.loaded.entries files l.seen.reach.now (file_syntax l.tree) l.extension
    (map string_bytes (take l.name-index l.names))
