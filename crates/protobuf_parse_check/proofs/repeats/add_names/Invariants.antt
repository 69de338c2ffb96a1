use Rattle.std.proofs.Common.{List, ◌++◌, map, string_bytes, take}
use Rattle.protobuf_parse_syntax.specs.Trees.{FileSyntax}
use Rattle.protobuf_parse_model.specs.Descriptors.{Text}
use Rattle.protobuf_parse_model.specs.Tables.{TableTells}
use Rattle.protobuf_parse_check.specs.Judging.{Bringers, BringsNames}
use Rattle.protobuf_parse_check.proofs.repeats.add_names.Given as goal

abbrev pub invariant-loop-name : goal.invariant-loop-name
invariant-loop-name l = (trees : List FileSyntax) (candidates : List Text) (first : Bringers)
    → TableTells l.seen.declarations.now trees
    → BringsNames trees l.seen.reach.now l.extension candidates l.own first l.initial.bringers
    (map string_bytes l.initial.names.items)
    → BringsNames trees l.seen.reach.now l.extension
    (candidates ++ map string_bytes (take l.name-index l.listed)) l.own first l.bringers
    (map string_bytes l.names.items)
