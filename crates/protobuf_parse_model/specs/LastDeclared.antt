-- Where in a file a full name is declared last.
use Rattle.std.specs.Prelude.{Bool, ◌&&◌, List, [], ◌∷◌, Option, Some, None, bytes_eq}
use Rattle.std.specs.Prelude.{if◌then◌else◌}
use Rattle.protobuf_parse_lexer.specs.declared.lexer.token.Place.{Place}
use Rattle.protobuf_parse_syntax.specs.Trees.{FileSyntax}
use Rattle.protobuf_parse_model.specs.Descriptors.{Text}
use Rattle.protobuf_parse_model.specs.DeclaredAt.{DeclaredAt, file_at}
use Rattle.protobuf_parse_model.specs.Tables.{is_of}

-- the place of the last that has the name, of extensions or else of types, or the place before them
abbrev pub last_place : Bool → Text → Option Place → List DeclaredAt → Option Place
last_place extension name before [] = before
last_place extension name before (d ∷ ds) =
    last_place extension name
    (if is_of extension d.what.kind && bytes_eq d.name name then Some d.what.place else before) ds

-- the place of the last declaration in the file of the name, if it has one: of an extension, or
-- else of a message or an enum, those behind maps and groups with them
abbrev pub last_declared : Bool → Text → FileSyntax → Option Place
last_declared extension name t = last_place extension name None (file_at t)
