-- No public clause rests on this file.
-- What is seen, as the code takes it apart.
use Rattle.std.specs.Prelude.{List, [], ◌∷◌, Option, None}
use Rattle.std.specs.Option.{option_or}
use Rattle.protobuf_parse_syntax.specs.Trees.{FileSyntax}
use Rattle.protobuf_parse_model.specs.declared.scope.seen.TypeKind.{TypeKind}
use Rattle.protobuf_parse_model.specs.declared.scope.seen.Declaration.{Declaration}
use Rattle.protobuf_parse_model.specs.declared.scope.seen.Seen.{Seen}
use Rattle.protobuf_parse_model.specs.Declarations.{file_scope}
use Rattle.protobuf_parse_model.specs.Environment.{Environment, Customs}
use Rattle.protobuf_parse_model.specs.SeenFiles.{seen_types, type_kind}

-- which type the first of the declarations declares that is of one
abbrev pub first_kind : List Declaration → Option TypeKind
first_kind [] = None
first_kind (d ∷ ds) = option_or (type_kind d.kind) (first_kind ds)

-- from where a whole file is seen, by the files that it sees
abbrev pub environment_of_file : Customs → Seen → FileSyntax → Environment
environment_of_file customs seen t =
    record { syntax = t.syntax; types = seen_types seen; scope = file_scope t; customs = customs }
