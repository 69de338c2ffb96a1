-- What the files of a set see of each other. A file sees what it declares itself, what the files
-- that it imports declare, and what these hand on: what the files that they import publicly
-- declare, and so on (Protocol Buffers Language Guide, "Importing Definitions",
-- https://protobuf.dev). Files are told apart by their positions in the set, in which each import
-- stands before the file (FileDescriptorSet of google/protobuf/descriptor.proto as protoc writes
-- it).
use Rattle.std.specs.Prelude.{ℕ, zero, suc, nat_eq, nat_lt, Bool, ◌||◌, if◌then◌else◌, List, []}
use Rattle.std.specs.Prelude.{◌∷◌, length, map, flat_map, Option, Some, None, option_to_list}
use Rattle.std.specs.Prelude.{slice_get, unwrap_or}
use Rattle.std.specs.List.{list_any}
use Rattle.protobuf_parse_model.specs.Descriptors.{Text, FileDescriptor}
use Rattle.protobuf_parse_model.specs.declared.scope.seen.TypeKind.{TypeKind}
use Rattle.protobuf_parse_set_rules.specs.Positions.{at_index, by_position, position_in}
use Rattle.protobuf_parse_set_rules.specs.Types.{DeclaredType, set_types, type_named}

-- ---- files by their paths

-- the path of a file
abbrev pub path_of : FileDescriptor → Text
path_of f = unwrap_or f.name []

-- the position, if it is one before n
abbrev pub before : ℕ → Option ℕ → Option ℕ
before n None = None
before n (Some p) = if nat_lt p n then Some p else None

-- which position a path has in the set
abbrev pub Paths : Type 0
Paths = Text → Option ℕ

-- the file of that path that stands before the one at n
abbrev pub file_before : Paths → ℕ → Text → Option ℕ
file_before paths n path = before n (paths path)

-- those of some paths
abbrev pub files_before : Paths → ℕ → List Text → List ℕ
files_before paths n wanted =
    flat_map (λ (path : Text). option_to_list (file_before paths n path)) wanted

-- ---- imports

-- the paths that the file imports publicly
abbrev pub public_paths : FileDescriptor → List Text
public_paths f = flat_map (λ i. option_to_list (at_index f.dependency i)) f.public_dependency

-- of each file, the files before it that it imports publicly
abbrev pub publics_of : Paths → List FileDescriptor → List (List ℕ)
publics_of paths files =
    by_position (λ n (f : FileDescriptor). files_before paths n (public_paths f) ∷ []) 0 files

-- those of the file at that position
abbrev pub publics_at : List (List ℕ) → ℕ → List ℕ
publics_at publics n = unwrap_or (slice_get publics n) []

-- Whether a file hands on what another declares: it is that one, or it imports publicly one that
-- hands it on; with at most so many public imports on the way.
abbrev pub hands_on : List (List ℕ) → (most : ℕ) → (from to : ℕ) → Bool
hands_on publics zero from to = nat_eq from to
hands_on publics (suc most) from to =
    nat_eq from to
    || list_any (λ via. hands_on publics most via to) (publics_at publics from)

-- Whether the file at that position, with these imports, sees what another declares. No way is
-- longer than there are files, since each goes back.
abbrev pub sees_file : List (List ℕ) → (own : ℕ) → (imports : List ℕ) → (to : ℕ) → Bool
sees_file publics own imports to =
    nat_eq own to || list_any (λ via. hands_on publics (length publics) via to) imports

-- ---- what names mean

-- what kind of type a full name means in a file, if the file sees one
abbrev pub Sight : Type 0
Sight = Text → Option TypeKind

-- the kind of the type, if its file is seen
abbrev pub kind_seen : (ℕ → Bool) → Option DeclaredType → Option TypeKind
kind_seen sees None = None
kind_seen sees (Some t) = if sees t.file then Some t.kind else None

-- what is known of the files of a set
pub record Known : Type 0 where
  pub paths : Paths
  pub publics : List (List ℕ)
  pub types : Text → Option DeclaredType

-- the positions of the files' paths
abbrev pub paths_of : List FileDescriptor → Paths
paths_of files = position_in (map path_of files)

-- what is known of these
abbrev pub known_of : List FileDescriptor → Known
known_of files = record {
  paths = paths_of files;
  publics = publics_of (paths_of files) files;
  types = type_named (set_types files);
}

-- whether the file at position n sees what the one at `to` declares
abbrev pub sees : Known → ℕ → FileDescriptor → (to : ℕ) → Bool
sees known n f to = sees_file known.publics n (files_before known.paths n f.dependency) to

-- what names mean in the file at position n
abbrev pub sight_of : Known → ℕ → FileDescriptor → Sight
sight_of known n f name = kind_seen (sees known n f) (known.types name)
