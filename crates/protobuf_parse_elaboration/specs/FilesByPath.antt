-- Files by their paths: the tree of each, and lists of some of them.
use Rattle.std.specs.Prelude.{◌≡◌, Bool, true, false, List, [], ◌∷◌, flat_map, Option, Some}
use Rattle.std.specs.Prelude.{option_to_list, bytes_eq}
use Rattle.std.specs.List.{list_any}
use Rattle.protobuf_parse_syntax.specs.Trees.{FileSyntax}
use Rattle.protobuf_parse_model.specs.Descriptors.{Text}

-- the tree of each path that names a file with a tree
abbrev pub Trees : Type 0
Trees = Text → Option FileSyntax

-- whether the path is one of these
abbrev pub among : Text → List Text → Bool
among path paths = list_any (λ x. bytes_eq path x) paths

-- Where `next` are the paths that a file names, a file leads to itself and to all that the files
-- lead to that it names.
pub data Leads (next : FileSyntax → List Text) (trees : Trees) : Text → Text → Type 0 where
  stays : (p : Text) → Leads next trees p p
  leads : (p q r : Text) (t : FileSyntax) → trees p ≡ Some t → among q (next t) ≡ true
      → Leads next trees q r → Leads next trees p r

-- each of the paths stands once
abbrev pub AreDistinct : List Text → Type 0
AreDistinct [] = Unit {0}
AreDistinct (p ∷ ps) = (among p ps ≡ false) × AreDistinct ps

-- the paths are just those that have the property, each once, in any order
pub record AreJust (Has : Text → Type 0) (paths : List Text) : Type 0 where
  pub once : AreDistinct paths
  pub only : (p : Text) → among p paths ≡ true → Has p
  pub all : (p : Text) → Has p → among p paths ≡ true

-- the trees of those of the paths that have one
abbrev pub trees_at : Trees → List Text → List FileSyntax
trees_at trees paths = flat_map (λ (p : Text). option_to_list (trees p)) paths
