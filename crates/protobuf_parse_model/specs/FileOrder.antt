-- No public clause rests on this file.
-- Declarations in the order of their files.
use Rattle.std.specs.Prelude.{List}
use Rattle.std.specs.List.Sorted.{IsNonDecreasingBy}
use Rattle.protobuf_parse_model.specs.declared.scope.seen.Declaration.{Declaration}

-- The numbers of the files ascend. A file may have several of the declarations.
abbrev pub FilesAscend : List Declaration → Type 0
FilesAscend ds = IsNonDecreasingBy (λ (d : Declaration). d.file) ds
