-- What a file imports.
use Rattle.std.specs.Prelude.{ℕ, ◌+◌, ℤ, pos, Bool, true, false, List, [], ◌∷◌, ◌++◌, map}
use Rattle.std.specs.Prelude.{flat_map, string_bytes, if◌then◌else◌}
use Rattle.protobuf_parse_lexer.specs.Text.{Bytes}
use Rattle.protobuf_parse_syntax.specs.Trees.{ImportSyntax, StatementSyntax, file_import}
use Rattle.protobuf_parse_syntax.specs.declared.dependencies.Dependencies.{Dependencies}
use Rattle.protobuf_parse_syntax.specs.declared.tree.ImportVis.{ImportVis}
use Rattle.protobuf_parse_syntax.specs.declared.tree.ImportVis.TheVariants as vis

-- the import that a statement is, if it is one
abbrev pub imported : StatementSyntax → List ImportSyntax
imported (file_import i) = i ∷ []
imported _ = []

-- the imports, in source order
abbrev pub imports : List StatementSyntax → List ImportSyntax
imports ss = flat_map imported ss

-- the import has the word `public`
abbrev pub is_public : ImportVis → Bool
is_public vis.Public = true
is_public _ = false

-- the import has the word `weak`
abbrev pub is_weak : ImportVis → Bool
is_weak vis.Weak = true
is_weak _ = false

-- the position, if b is true
abbrev pub position_if : Bool → ℕ → List ℤ
position_if b n = if b then pos n ∷ [] else []

-- the positions of those that are seen so, where the first import stands at n
abbrev pub positions : (ImportVis → Bool) → ℕ → List ImportSyntax → List ℤ
positions is_so n [] = []
positions is_so n (i ∷ is) = position_if (is_so i.vis) n ++ positions is_so (n + 1) is

-- the paths of the imports, in source order, and the positions of the public and of the weak ones
-- among them
pub record FileImports : Type 0 where
  pub paths : List Bytes
  pub public : List ℤ
  pub weak : List ℤ

-- what imports in source order say
abbrev pub imports_of : List ImportSyntax → FileImports
imports_of is = record {
  paths = map (λ i. i.path) is;
  public = positions is_public 0 is;
  weak = positions is_weak 0 is;
}

-- what the imports among a file's statements say
unfoldable pub dependencies_of : List StatementSyntax → FileImports
dependencies_of ss = imports_of (imports ss)

-- what the Rust value says of them
abbrev pub dependencies_view : Dependencies → FileImports
dependencies_view d = record {
  paths = map string_bytes d.dependency.items;
  public = d.public_dependency.items;
  weak = d.weak_dependency.items;
}
