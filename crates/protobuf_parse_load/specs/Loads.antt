-- What a load answers, beside what it does.
use Rattle.std.specs.Prelude.{◌≡◌, ℕ, List, [], ◌∷◌, ◌++◌, map, Some, None, Result, Ok, Err}
use Rattle.std.specs.Prelude.{slice_get, string_bytes}
use Rattle.protobuf_parse_base.specs.PathViews.{path_buf_text}
use Rattle.protobuf_parse_syntax.specs.Trees.{file_syntax}
use Rattle.protobuf_parse_model.specs.Descriptors.{Text}
use Rattle.protobuf_parse_run.specs.declared.log.ReadEntry.{ReadEntry}
use Rattle.protobuf_parse_run.specs.Walks.{FileRead, Input, Trees}
use Rattle.protobuf_parse_run.specs.Run.{AreAnswered, HasTrees, Legal, StandsInLoad, first_read}
use Rattle.protobuf_parse_run.specs.Run.{text_read}
use Rattle.protobuf_parse_load.specs.declared.step.Asker.{Asker}
use Rattle.protobuf_parse_load.specs.declared.step.Asker.TheVariants as asker
use Rattle.protobuf_parse_load.specs.declared.step.Unfollowed.{Unfollowed}
use Rattle.protobuf_parse_load.specs.declared.step.Unfollowed.TheVariants as unfollowed
use Rattle.protobuf_parse_load.specs.declared.step.LoadStep.{LoadStep}
use Rattle.protobuf_parse_load.specs.declared.step.LoadStep.TheVariants as step
use Rattle.protobuf_parse_load.specs.declared.log.LoadedFile.{LoadedFile}
use Rattle.protobuf_parse_load.specs.declared.log.UnreadFile.{UnreadFile}
use Rattle.protobuf_parse_load.specs.declared.log.Load.{Load}
use Rattle.protobuf_parse_load.specs.Steps.{AskedBy, At, Step, Why, by_import, by_input, closed}
use Rattle.protobuf_parse_load.specs.Steps.{closed_paths, held, is_cycle, is_too_long, is_unread}
use Rattle.protobuf_parse_load.specs.Steps.{load_of, opened, told}

-- ---- what the Rust values say

-- who asks
abbrev pub asker_view : Asker → AskedBy
asker_view (asker.Input n) = by_input n
asker_view (asker.Import file place) = by_import (string_bytes file) place

-- why it isn't followed
abbrev pub why_view : Unfollowed → Why
why_view (unfollowed.Unread n) = is_unread n
why_view unfollowed.Cycle = is_cycle
why_view (unfollowed.TooLong input) = is_too_long (string_bytes input)

-- a step
abbrev pub step_view : LoadStep → Step
step_view (step.Opened by path) = opened (asker_view by) (string_bytes path)
step_view (step.Told by path why) = told (asker_view by) (string_bytes path) (why_view why)
step_view (step.Closed path height) = closed (string_bytes path) height
step_view (step.Held input path read) = held input (string_bytes path) read

-- so are several
abbrev pub steps_view : List LoadStep → List Step
steps_view steps = map step_view steps

-- ---- files

-- what was read, with the bundled files, and the tree of each path, as far as it has one
pub record ReadFiles : Type 0 where
  pub bundled : List (Text × Text)
  pub reads : List ReadEntry
  pub trees : Trees

-- the read with this number is the first of the path
pub record IsFirstRead (log : List ReadEntry) (p : Text) (n : ℕ) : Type 0 where
  pub entry : ReadEntry
  pub at : slice_get log n ≡ Some entry
  pub named : path_buf_text entry.path ≡ p
  pub first : first_read p log ≡ Some entry.outcome

-- a file that was loaded: its path, its first read, and its tree
pub record IsLoadedFile (files : ReadFiles) (p : Text) (file : LoadedFile) : Type 0 where
  pub path : string_bytes file.path ≡ p
  pub read : IsFirstRead files.reads p file.read
  pub tree : files.trees p ≡ Some (file_syntax file.tree)

-- these are the files of these paths, in order
abbrev pub AreLoadedFiles : ReadFiles → List Text → List LoadedFile → Type 0
AreLoadedFiles files [] [] = Unit {0}
AreLoadedFiles files (p ∷ paths) (f ∷ loaded) =
    IsLoadedFile files p f × AreLoadedFiles files paths loaded
AreLoadedFiles files _ _ = ⊥

-- a file that can't be read or parsed: its path, its first read, that it has no tree, and a fault
-- that stands there
pub record IsUnreadFile (files : ReadFiles) (r : FileRead) (file : UnreadFile) : Type 0 where
  pub path : string_bytes file.path ≡ r.path
  pub read : IsFirstRead files.reads r.path file.read
  pub treeless : files.trees r.path ≡ None
  pub stands : StandsInLoad r.asked r.path (first_read r.path files.reads)
      (text_read files.bundled files.reads r.path) file.fault

-- these are the files of these reads, in order
abbrev pub AreUnreadFiles : ReadFiles → List FileRead → List UnreadFile → Type 0
AreUnreadFiles files [] [] = Unit {0}
AreUnreadFiles files (r ∷ reads) (f ∷ unread) =
    IsUnreadFile files r f × AreUnreadFiles files reads unread
AreUnreadFiles files _ _ = ⊥

-- ---- a load

-- These are the steps of a load; its reads so far were answered so; these are the files that it
-- loaded, in order, and those that it could not read or parse.
pub record IsLoadSoFar (legal : Legal) (files : ReadFiles) (a : At) (log : List ReadEntry)
    (steps : List LoadStep) (loaded : List LoadedFile) (unread : List UnreadFile) : Type 0 where
  pub steps_are : steps_view steps ≡ a.steps
  pub answers : AreAnswered legal a.reads log
  pub loaded_are : AreLoadedFiles files (closed_paths a.steps) loaded
  pub unread_are : AreUnreadFiles files a.unread unread

-- memory ran out: what was read is a beginning of the reads of the load
pub record IsCutOff (legal : Legal) (a : At) (log : List ReadEntry) : Type 0 where
  pub done : List FileRead
  pub later : List FileRead
  pub beginning : a.reads ≡ done ++ later
  pub answers : AreAnswered legal done log

-- how a load may end: it is done, or memory ran out
abbrev pub LoadEnds : {E : Type 0} → Legal → ReadFiles → At → Result Load E → Type 0
LoadEnds legal files a (Ok load) =
    IsLoadSoFar legal files a files.reads load.steps.items load.files.items load.unread.items
LoadEnds legal files a (Err e) = IsCutOff legal a files.reads

-- A load of these inputs with these bundled files read this log and ended so, whichever trees the
-- texts have.
abbrev pub LoadsAsTold : {E : Type 0} → Legal → List Input → List (Text × Text) → List ReadEntry
    → Result Load E → Type 0
LoadsAsTold legal inputs bundled log result =
    (trees : Trees) → HasTrees bundled log trees
    → LoadEnds legal (record { bundled = bundled; reads = log; trees = trees })
    (load_of trees inputs) result
