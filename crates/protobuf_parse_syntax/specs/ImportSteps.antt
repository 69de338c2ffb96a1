-- No public clause rests on this file.
-- What one statement more makes of the imports of a file.
use Rattle.std.specs.Prelude.{[], ◌∷◌, ◌++◌, length}
use Rattle.protobuf_parse_syntax.specs.Trees.{ImportSyntax, StatementSyntax, file_import}
use Rattle.protobuf_parse_syntax.specs.Dependencies.{FileImports, is_public, is_weak, position_if}

-- one import more, behind the others
abbrev pub with_import : FileImports → ImportSyntax → FileImports
with_import found i = record {
  paths = found.paths ++ i.path ∷ [];
  public = found.public ++ position_if (is_public i.vis) (length found.paths);
  weak = found.weak ++ position_if (is_weak i.vis) (length found.paths);
}

-- one statement more
abbrev pub with_statement : FileImports → StatementSyntax → FileImports
with_statement found (file_import i) = with_import found i
with_statement found _ = found
