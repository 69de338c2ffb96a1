-- The files of a run in their order: each that an input reaches, once, and after all that it
-- imports.
--
-- `order` takes them from the walks of the inputs' import trees. Here it is said by the trees and
-- `Reaches` alone, wherever no walk breaks off, as in every accepted run.
use Rattle.std.specs.Prelude.{◌≡◌, ◌↔◌, true, Bool, false, not, is_some, List, ◌∷◌, ◌++◌, map, Some}
use Rattle.std.specs.Prelude.{None, find}
use Rattle.protobuf_parse_syntax.specs.Trees.{FileSyntax}
use Rattle.protobuf_parse_model.specs.Descriptors as described
use Rattle.protobuf_parse_model.specs.Descriptors.{Text, FileDescriptor}
use Rattle.protobuf_parse_model.specs.Faults.{Among}
use Rattle.protobuf_parse_model.specs.declared.descriptor.FileDescriptorProto.{FileDescriptorProto}
use Rattle.protobuf_parse_elaboration.specs.FileDescriptor.{file_of}
use Rattle.protobuf_parse_elaboration.specs.FilesByPath.{AreDistinct}
use Rattle.protobuf_parse_options.specs.DescriptorsByPath.{AreWithin}
use Rattle.protobuf_parse_run.specs.Walks.{Input, input_name, Event, cycle, long, load, Trees}
use Rattle.protobuf_parse_run.specs.Walks.{Reaches, among, events, import_paths}
use Rattle.protobuf_parse_run.specs.Run.{Files, AreDescriptors, environment_of}
use Rattle.protobuf_parse_run.specs.Recovered.{handed_out}
use Rattle.protobuf_parse_run.specs.Stability.{IsClean, IsFileOfRun, order}

-- Where a walk breaks off: at a file on its own import chain, at a chain that is too long, and at a
-- file that has no tree.
abbrev pub breaks_off : Trees → Event → Bool
breaks_off trees (cycle p) = true
breaks_off trees (long i) = true
breaks_off trees (load a p) = not (is_some (trees p))
breaks_off trees _ = false

-- no walk of these inputs breaks off
abbrev pub AreWalked : Trees → List Input → Type 0
AreWalked trees inputs = find (breaks_off trees) (events trees inputs) ≡ None

-- so it is in every accepted run
abbrev pub AcceptedAreWalked : Type 0
AcceptedAreWalked =
    (files : Files) (inputs : List Input) → IsClean files inputs → AreWalked files.trees inputs

-- the path of an input reaches this one
pub record IsReached (trees : Trees) (inputs : List Input) (p : Text) : Type 0 where
  pub from : Text
  pub is_input : among from (map input_name inputs) ≡ true
  pub reaches : Reaches trees from p

-- No path stands twice in the order, whether walks break off or not.
abbrev pub NoneComesTwice : Type 0
NoneComesTwice = (trees : Trees) (inputs : List Input) → AreDistinct (order trees inputs)

-- Just those stand in it that the path of an input reaches.
abbrev pub AllReachedCome : Type 0
AllReachedCome =
    (trees : Trees) (inputs : List Input) → AreWalked trees inputs
    → (p : Text) → IsFileOfRun trees inputs p ↔ IsReached trees inputs p

-- Before each stand all that its file imports.
abbrev pub ImportsComeFirst : Type 0
ImportsComeFirst =
    (trees : Trees) (inputs : List Input) → AreWalked trees inputs
    → (front back : List Text) (p : Text) (t : FileSyntax)
    → order trees inputs ≡ front ++ p ∷ back → trees p ≡ Some t
    → (q : Text) → among q (import_paths t) ≡ true → among q front ≡ true

-- With each stand all that it reaches.
abbrev pub ReachedComeToo : Type 0
ReachedComeToo =
    (trees : Trees) (inputs : List Input) → AreWalked trees inputs
    → (p q : Text) → IsFileOfRun trees inputs p → Reaches trees p q → IsFileOfRun trees inputs q

-- ---- the descriptors of an accepted run

-- The file of this path has a tree, and what it becomes is among these descriptors.
pub record IsHandedOut (files : Files) (ds : List FileDescriptorProto) (p : Text) : Type 0 where
  pub tree : FileSyntax
  pub has_tree : files.trees p ≡ Some tree
  pub descriptor : FileDescriptorProto
  pub stands : Among ds descriptor
  pub becomes : described.file_view descriptor ≡ file_of (environment_of files p tree) p tree

-- Descriptors that bear the names of these paths, in order.
pub record AreHandedOut (files : Files) (paths : List Text) (ds : List FileDescriptorProto)
    : Type 0 where
  pub names : map (λ (d : FileDescriptorProto). (described.file_view d).name) ds ≡ map Some paths
  -- What the file of each path becomes is among them,
  pub each : (p : Text) → among p paths ≡ true → IsHandedOut files ds p
  -- and so are all by which custom options are read back, where these are some of the files.
  pub read_by : (some : List Text) → AreWithin some paths → (d : FileDescriptor)
      → Among (handed_out files some) d → Among (map described.file_view ds) d

-- So are those of every accepted run, with the paths of its order.
abbrev pub OrderIsHandedOut : Type 0
OrderIsHandedOut =
    (files : Files) (inputs : List Input) (ds : List FileDescriptorProto)
    → AreDescriptors files (order files.trees inputs) ds
    → AreHandedOut files (order files.trees inputs) ds
