-- No public clause rests on this file.
-- Loading by a stack of files whose imports are being met: what the stack still owes, and what
-- holds of each of its frames. The lowest frame is the first of the list; the top one stands beside
-- it.
use Rattle.std.specs.Prelude.{ℕ, suc, Bool, true, false, if◌then◌else◌, List, [], ◌∷◌, ◌++◌, Option}
use Rattle.std.specs.Prelude.{Some, None, Result, Ok, Err, ◌≡◌, ◌<◌, ◌≤◌, ◌+◌, ◌-◌, ◌*◌, ◌^◌}
use Rattle.std.specs.Prelude.{length, map, flat_map, max, take, drop, slice_get, string_bytes}
use Rattle.std.specs.List.{AllByRecursion}
use Rattle.protobuf_parse_base.specs.PathViews.{path_buf_text}
use Rattle.protobuf_parse_syntax.specs.Counts.{statements_in}
use Rattle.protobuf_parse_syntax.specs.Dependencies.{imports, is_public}
use Rattle.protobuf_parse_syntax.specs.Trees.{ImportSyntax, file_syntax, statement_syntax}
use Rattle.protobuf_parse_syntax.specs.declared.tree.FileStatement.{FileStatement}
use Rattle.protobuf_parse_syntax.specs.declared.tree.FileStatement.TheVariants as file_statement
use Rattle.protobuf_parse_syntax.specs.declared.tree.Import.{Import}
use Rattle.protobuf_parse_model.specs.Descriptors.{Text}
use Rattle.protobuf_parse_run.specs.declared.fault.RunFault.{RunFault}
use Rattle.protobuf_parse_run.specs.declared.frame.LoadFrame.{LoadFrame}
use Rattle.protobuf_parse_run.specs.declared.loader.Met.{Met}
use Rattle.protobuf_parse_run.specs.declared.loader.Met.TheVariants as met
use Rattle.protobuf_parse_run.specs.declared.loader.LoadedAs.{LoadedAs}
use Rattle.protobuf_parse_run.specs.declared.log.ReadEntry.{ReadEntry}
use Rattle.protobuf_parse_run.specs.Walks.{Asked, the_resolver, Event, load, elab, has, keep, among}
use Rattle.protobuf_parse_run.specs.Walks.{Trees, walks_joined, public_paths_of, import_statements}
use Rattle.protobuf_parse_run.specs.Walks.{walk}
use Rattle.protobuf_parse_run.specs.Run.{Files, first_read, Legal}
use Rattle.protobuf_parse_run.specs.Loading.{LoadedEntry, FilesAreNumbered, Good, IsNumbered}
use Rattle.protobuf_parse_run.specs.Loading.{Settled, Stops, file_at, path_shape, imports_shape}
use Rattle.protobuf_parse_run.specs.Loading.{named_trees, read_paths}

abbrev pub frame_path : LoadFrame → Text
frame_path f = string_bytes f.path

-- the paths that these statements import
abbrev pub imports_in : List FileStatement → List Text
imports_in xs = map (λ (i : ImportSyntax). i.path) (imports (map statement_syntax xs))

-- of a frame: the imports that are loaded, those that are left, and those behind the next
abbrev pub done_in : LoadFrame → List Text
done_in f = imports_in (take f.next f.tree.statements.items)

abbrev pub left_in : LoadFrame → List Text
left_in f = imports_in (drop f.next f.tree.statements.items)

abbrev pub later_in : LoadFrame → List Text
later_in f = imports_in (drop (suc f.next) f.tree.statements.items)

-- the paths that these statements import publicly
abbrev pub public_in : List FileStatement → List Text
public_in xs = flat_map public_paths_of (map statement_syntax xs)

-- those of them that are loaded
abbrev pub public_done : LoadFrame → List Text
public_done f = public_in (take f.next f.tree.statements.items)

-- a statement that is a public import
abbrev pub is_public_at : Option FileStatement → Bool
is_public_at (Some (file_statement.Import i)) = is_public i.vis
is_public_at _ = false

-- the number, if b is true
abbrev pub number_if : Bool → ℕ → List ℕ
number_if b n = if b then n ∷ [] else []

-- this chain with the files of these frames
abbrev pub chain_of : List Text → List LoadFrame → List Text
chain_of chain [] = chain
chain_of chain (f ∷ fs) = chain_of (chain ++ frame_path f ∷ []) fs

-- the walks of the imports that are left, and the elaboration
abbrev pub owed : Trees → Text → List Text → Text → List Text → List Event
owed trees input chain path left =
    walks_joined (walk trees input the_resolver (100 - length (chain ++ path ∷ []))
    (chain ++ path ∷ []))
    left ++ elab path ∷ []

-- what the frames below the top owe, each of which waits for its next import: the frame above
abbrev pub todo : Trees → Text → List Text → List LoadFrame → List Event
todo trees input chain [] = []
todo trees input chain (f ∷ fs) = todo trees input (chain ++ frame_path f ∷ []) fs
    ++ owed trees input chain (frame_path f) (later_in f)

-- how many imports these frames are still to meet
abbrev pub to_meet : List LoadFrame → ℕ
to_meet [] = 0
to_meet (f ∷ fs) = length (later_in f) + to_meet fs

-- the path of the lowest of these frames, or else this
abbrev pub first_path : List LoadFrame → Text → Text
first_path [] path = path
first_path (f ∷ fs) path = frame_path f

-- A file whose imports are being met: it was read and has its tree, and the walks of its imports so
-- far are settled.
pub record IsHeld (files : Files) (now : List Event) (log : List ReadEntry)
    (f : LoadFrame) : Type 0 where
  pub load : has (load the_resolver (frame_path f)) now ≡ true
  pub is : files.trees (frame_path f) ≡ Some (file_syntax f.tree)
  pub settled : Settled now f.height (imports_shape files.trees (done_in f))
  pub entry : ReadEntry
  pub found : slice_get log f.read ≡ Some entry
  pub named : path_buf_text entry.path ≡ frame_path f
  pub first : first_read (frame_path f) files.reads ≡ Some entry.outcome

-- A run that ends with these events, at a stack. It met files so often, and at its beginning so
-- often.
pub record IsRunning (legal : Legal) (files : Files) (kept events : List Event)
    (input : Text)
    (start meets : ℕ) (stack : List LoadFrame) (top : LoadFrame) (loaded : List LoadedEntry)
    (log : List ReadEntry) : Type 0 where
  pub now : List Event
  pub is : events
      ≡ keep now (owed files.trees input (chain_of [] stack) (frame_path top) (left_in top)
      ++ todo files.trees input [] stack)
  pub good : Good legal files now loaded log (chain_of [] stack ++ frame_path top ∷ [])
  pub held : IsHeld files now log top
  pub below : AllByRecursion (IsHeld files now log) stack
  pub count : meets + import_statements files.trees kept + (length (left_in top) + to_meet stack)
      ≡ start + 1 + import_statements files.trees now

-- whatever the trees are: the imports so far have these numbers, the public ones those, and the
-- file was read; its tree has no more statements than a text has bytes
pub record IsTaken (loaded : List LoadedEntry) (log : List ReadEntry) (f : LoadFrame) : Type 0 where
  pub numbered : FilesAreNumbered (named_trees loaded) f.below.items (done_in f)
  pub public : FilesAreNumbered (named_trees loaded) f.public.items (public_done f)
  pub read : among (frame_path f) (read_paths log) ≡ true
  pub few : statements_in (file_syntax f.tree) ≤ 2147483647

-- a frame above this chain, whose next statement imports that path
pub record IsWaiting (chain : List Text) (f : LoadFrame) (path : Text) : Type 0 where
  pub low : length chain + f.height < 100
  pub off : among (frame_path f) chain ≡ false
  pub import : Import
  pub at : slice_get f.tree.statements.items f.next ≡ Some (file_statement.Import import)
  pub named : path_buf_text import.path ≡ path

-- each of these frames waits for the next, and the last for this path
abbrev pub AreWaiting : List Text → List LoadFrame → Text → Type 0
AreWaiting chain [] path = Unit {0}
AreWaiting chain (f ∷ fs) path = IsWaiting chain f (first_path fs path)
    × AreWaiting (chain ++ frame_path f ∷ []) fs path

-- what is left to do at the frames below the top, where this many stand below them
abbrev pub weight : ℕ → List LoadFrame → ℕ
weight count [] = 0
weight count (f ∷ fs) = (length f.tree.statements.items - f.next) * (2 ^ 65) ^
    (100 - count) + weight (suc count) fs

-- what is left to do at all frames: at the top one statement more, since it is to be closed
abbrev pub left_over : List LoadFrame → LoadFrame → ℕ
left_over stack top = weight 0 stack + suc (length top.tree.statements.items - top.next) *
    (2 ^ 65) ^ (100 - length stack)

-- ---- what a step leaves

-- a frame that was opened on this chain
pub record IsOpened (chain : List Text) (path : Text) (loaded : List LoadedEntry)
    (old : List ReadEntry)
    (after : List Text) (new : List ReadEntry) (f : LoadFrame) : Type 0 where
  pub chain_is : after ≡ chain ++ path ∷ []
  pub room : length chain < 100
  pub off : among path chain ≡ false
  pub missing : file_at path loaded ≡ None
  pub path_is : frame_path f ≡ path
  pub next : f.next ≡ 0
  pub height : f.height ≡ 0
  pub below : f.below.items ≡ []
  pub public : f.public.items ≡ []
  pub entry : ReadEntry
  pub reads : new ≡ old ++ entry ∷ []
  pub named : path_buf_text entry.path ≡ path
  pub few : statements_in (file_syntax f.tree) ≤ 2147483647

-- a loaded file that was met on this chain
pub record IsAgain (chain : List Text) (path : Text) (loaded : List LoadedEntry)
    (old : List ReadEntry)
    (after : List Text) (new : List ReadEntry) (placed : LoadedAs) : Type 0 where
  pub chain_is : after ≡ chain
  pub reads : new ≡ old
  pub low : length chain + placed.height ≤ 100
  pub number : IsNumbered (named_trees loaded) placed.number path

abbrev pub StandsMet : List Text → Text → List LoadedEntry → List ReadEntry → List Text
    → List ReadEntry
    → Result Met RunFault → Type 0
StandsMet chain path loaded old after new (Ok (met.Loaded placed)) =
    IsAgain chain path loaded old after new placed
StandsMet chain path loaded old after new (Ok (met.Opened frame)) =
    IsOpened chain path loaded old after new frame
StandsMet chain path loaded old after new (Err f) = Unit {0}

-- a loaded file, met again, adds nothing
pub record IsSame (files : Files) (kept : List Event) (input : Text) (asked : Asked)
    (chain : List Text) (path : Text) (placed : LoadedAs) : Type 0 where
  pub again : keep kept (walk files.trees input asked (100 - length chain) chain path) ≡ kept
  pub settled : Settled kept placed.height (path_shape files.trees path)

-- a file that was read now
pub record IsNew (legal : Legal) (files : Files) (kept : List Event)
    (asked : Asked)
    (chain : List Text) (path : Text) (loaded : List LoadedEntry) (log : List ReadEntry)
    (f : LoadFrame) : Type 0 where
  pub fresh : has (load asked path) kept ≡ false
  pub good : Good legal files (kept ++ load asked path ∷ []) loaded log (chain ++ path ∷ [])
  pub held : IsHeld files (kept ++ load asked path ∷ []) log f

abbrev pub Meets : Legal → Files → List Event → Text → Asked → List Text → Text
    → List LoadedEntry
    → List ReadEntry → Result Met RunFault → Type 0
Meets legal files kept input asked chain path loaded log (Ok (met.Loaded placed)) =
    Good legal files kept loaded log chain × IsSame files kept input asked chain path placed
Meets legal files kept input asked chain path loaded log (Ok (met.Opened frame)) =
    IsNew legal files kept asked chain path loaded log frame
Meets legal files kept input asked chain path loaded log (Err f) =
    Stops legal files (keep kept
    (walk files.trees input asked (100 - length chain) chain path)) log
    f

-- a frame that took its next import
pub record Joined (old : LoadFrame) (placed : LoadedAs) (new : LoadFrame) : Type 0 where
  pub path_is : new.path ≡ old.path
  pub tree_is : new.tree ≡ old.tree
  pub read_is : new.read ≡ old.read
  pub next : new.next ≡ suc old.next
  pub height : new.height ≡ max old.height placed.height
  pub below : new.below.items ≡ old.below.items ++ placed.number ∷ []
  pub public : new.public.items ≡ old.public.items
      ++ number_if (is_public_at (slice_get old.tree.statements.items old.next)) placed.number
