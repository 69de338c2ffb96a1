-- No public clause rests on this file.
-- What a walk adds to the declarations that it has.
use Rattle.std.specs.Prelude.{◌≡◌, List, ◌++◌, map}
use Rattle.protobuf_parse_locations.specs.Declarations.{DeclarationAt}
use Rattle.protobuf_parse_locations.specs.Views.{declaration_view}
use Rattle.protobuf_parse_locations.specs.declared.declaration.Declaration.{Declaration}

-- These are there in addition, behind the others.
pub record Adds (old new : List Declaration) (more : List DeclarationAt) : Type 0 where
  pub all : map declaration_view new ≡ map declaration_view old ++ more
