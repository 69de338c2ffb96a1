-- Files by their paths: the descriptors of lists of some of them, and what custom options mean
-- there.
--
-- Custom options are defined over two lists, of the files that are reached and of those that are
-- seen. Their order makes no difference, where no full name is declared twice in what is reached.
use Rattle.std.specs.Prelude.{◌≡◌, true, List, [], map, flat_map, Some, option_to_list}
use Rattle.protobuf_parse_syntax.specs.Trees.{FileSyntax}
use Rattle.protobuf_parse_model.specs.Descriptors.{Text, FileDescriptor}
use Rattle.protobuf_parse_model.specs.Declarations.{file_scope}
use Rattle.protobuf_parse_model.specs.Linking.{link_faults}
use Rattle.protobuf_parse_model.specs.Environment.{Environment}
use Rattle.protobuf_parse_elaboration.specs.FilesByPath.{Trees, among, trees_at}
use Rattle.protobuf_parse_elaboration.specs.FileDescriptor.{file_of}
use Rattle.protobuf_parse_options.specs.OptionBytes.{customs_by_files}
use Rattle.protobuf_parse_options.specs.NamesAlike.{HasPackageName}

-- the environment of the file at each path, by its tree
abbrev pub Environments : Type 0
Environments = Text → FileSyntax → Environment

-- the descriptor of the file at that path with that tree
abbrev pub described_at : Environments → Text → FileSyntax → FileDescriptor
described_at env path t = file_of (env path t) path t

-- the descriptors of those of the paths that have a tree
abbrev pub descriptors_at : Trees → Environments → List Text → List FileDescriptor
descriptors_at trees env paths =
    flat_map (λ (p : Text). map (described_at env p) (option_to_list (trees p))) paths

-- Each environment is that of its file's scope, and each package that is named has a name.
pub record HasFileScopes (trees : Trees) (env : Environments) : Type 0 where
  pub scope : (p : Text) (t : FileSyntax) → trees p ≡ Some t → (env p t).scope ≡ file_scope t
  pub package_name : (p : Text) (t : FileSyntax) → trees p ≡ Some t → HasPackageName t

-- two lists of paths with the same members
abbrev pub HaveSameMembers : (paths paths' : List Text) → Type 0
HaveSameMembers paths paths' = (p : Text) → among p paths ≡ among p paths'

-- each of the paths is one of the others
abbrev pub AreWithin : (paths others : List Text) → Type 0
AreWithin paths others = (p : Text) → among p paths ≡ true → among p others ≡ true

-- Two lists of what a file reaches and two of what it sees, in any order, where no name is declared
-- twice.
pub record AreReordered (trees : Trees) (reached reached' seen seen' : List Text) : Type 0 where
  pub reach : HaveSameMembers reached reached'
  pub sight : HaveSameMembers seen seen'
  pub within : AreWithin seen reached
  pub once : link_faults (trees_at trees reached) ≡ []

-- The order of the files makes no difference to what custom options become and to what is wrong in
-- them.
abbrev pub OrderMakesNoDifference : Type 0
OrderMakesNoDifference =
    (trees : Trees) (env : Environments) (reached reached' seen seen' : List Text)
    → HasFileScopes trees env → AreReordered trees reached reached' seen seen'
    → customs_by_files (descriptors_at trees env reached) (descriptors_at trees env seen)
    ≡ customs_by_files (descriptors_at trees env reached') (descriptors_at trees env seen')
