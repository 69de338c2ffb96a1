-- A file without the import statements that a load doesn't follow.
--
-- An import whose file can't be read or parsed, which closes a cycle or makes a chain of files too
-- long, is told where it stands, and is as if it were absent: what the file is held against is what
-- is left.
use Rattle.std.specs.Prelude.{◌≡◌, ◌&&◌, Bool, true, not, List, [], ◌∷◌, filter, flat_map}
use Rattle.std.specs.Prelude.{option_map, bytes_eq, if◌then◌else◌, nat_eq}
use Rattle.std.specs.List.{list_any}
use Rattle.protobuf_parse_lexer.specs.declared.lexer.token.Place.{Place}
use Rattle.protobuf_parse_syntax.specs.Dependencies.{imports, is_public}
use Rattle.protobuf_parse_syntax.specs.Trees.{FileSyntax, ImportSyntax, StatementSyntax, file_import}
use Rattle.protobuf_parse_model.specs.Descriptors.{Text}
use Rattle.protobuf_parse_run.specs.Run.{FilesAreListed}
use Rattle.protobuf_parse_run.specs.Walks.{Trees, among}
use Rattle.protobuf_parse_load.specs.Steps.{Step, by_import, told}

-- equal places
abbrev pub same_place : Place → Place → Bool
same_place p q = nat_eq p.line q.line && nat_eq p.col q.col

-- the place of a statement of this file, if that is the step that tells it
abbrev pub told_place : Text → Step → List Place
told_place p (told (by_import q place) path why) = if bytes_eq p q then place ∷ [] else []
told_place p _ = []

-- the places of the import statements of this file that are told
abbrev pub told_places : List Step → Text → List Place
told_places steps p = flat_map (told_place p) steps

-- whether the import statement at that place of the file is told
abbrev pub is_told : List Step → Text → Place → Bool
is_told steps p place = list_any (same_place place) (told_places steps p)

-- whether a statement of the file is there for what the file is held against
abbrev pub is_followed : List Step → Text → StatementSyntax → Bool
is_followed steps p (file_import i) = not (is_told steps p i.place)
is_followed steps p _ = true

-- the file without the imports that are told
abbrev pub trimmed : List Step → Text → FileSyntax → FileSyntax
trimmed steps p t = record {
  syntax = t.syntax;
  statements = filter (is_followed steps p) t.statements;
}

-- so is each file
abbrev pub trimmed_trees : List Step → Trees → Trees
trimmed_trees steps trees p = option_map (trimmed steps p) (trees p)

-- whether one of the file's imports is told
abbrev pub has_told : List Step → Text → FileSyntax → Bool
has_told steps p t = list_any (λ (i : ImportSyntax). is_told steps p i.place) (imports t.statements)

-- whether one of its public imports is
abbrev pub has_told_public : List Step → Text → FileSyntax → Bool
has_told_public steps p t =
    list_any (λ (i : ImportSyntax). is_public i.vis && is_told steps p i.place)
    (imports t.statements)

-- these are in the order of those
abbrev pub AreInOrder : (all some : List Text) → Type 0
AreInOrder all some = some ≡ filter (λ (p : Text). among p some) all

-- These are just the files that each file reaches and sees, each once; of each of those files they
-- are in that order.
pub record AreListed (trees : Trees) (order : List Text) (reached seen : Text → List Text)
    : Type 0 where
  pub just : FilesAreListed trees reached seen
  pub reached_in_order : (p : Text) → among p order ≡ true → AreInOrder order (reached p)
  pub seen_in_order : (p : Text) → among p order ≡ true → AreInOrder order (seen p)
