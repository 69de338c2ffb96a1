use Rattle.std.proofs.Common.{List, map, string_bytes, take}
use Rattle.protobuf_parse_syntax.specs.Trees.{FileSyntax}
use Rattle.protobuf_parse_model.specs.Tables.{TableTells}
use Rattle.protobuf_parse_check.specs.Judging.{BringsNames, listed_for}
use Rattle.protobuf_parse_check.proofs.repeats.brought_names.Given as goal

abbrev pub invariant-loop-file : goal.invariant-loop-file
invariant-loop-file l = (trees : List FileSyntax) → TableTells l.seen.declarations.now trees
    → BringsNames trees l.seen.reach.now l.extension
    (listed_for l.seen.declarations.now (take l.file-index l.files)) l.own l.initial.bringers
    l.bringers (map string_bytes l.names.items)
