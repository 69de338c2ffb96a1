-- No public clause rests on this file.
-- What a call of the loader does, whatever is loaded: `old` is the loader before it, `new` the
-- loader after it.
use Rattle.std.specs.Prelude.{◌≡◌, ◌≤◌, ◌+◌, ◌*◌, ◌^◌, ◌++◌, ◌∷◌, ℕ, List, [], length, map}
use Rattle.std.specs.Prelude.{Option, Result, IfOk, OnOk}
use Rattle.std.specs.Borrow.{Bor}
use Rattle.protobuf_parse_syntax.specs.Trees.{file_syntax}
use Rattle.protobuf_parse_model.specs.Descriptors.{Text}
use Rattle.protobuf_parse_model.specs.Tables.{TableTells}
use Rattle.protobuf_parse_run.specs.declared.fault.RunFault.{RunFault}
use Rattle.protobuf_parse_run.specs.declared.frame.LoadFrame.{LoadFrame}
use Rattle.protobuf_parse_run.specs.declared.loader.LoadedAs.{LoadedAs}
use Rattle.protobuf_parse_run.specs.declared.loader.Loader.{Loader}
use Rattle.protobuf_parse_run.specs.declared.loader.Met.{Met}
use Rattle.protobuf_parse_run.specs.declared.source.Sources.{Sources}
use Rattle.protobuf_parse_run.specs.Walks.{Asked, Event, Input, Trees, events, import_statements}
use Rattle.protobuf_parse_run.specs.Walks.{keep, walk}
use Rattle.protobuf_parse_run.specs.Run.{Files, IsCounted, MayRead, MayResolve, rows}
use Rattle.protobuf_parse_run.specs.Loading.{AreKnown, GoesOn, Goes, Good, Grows, IndexBegins}
use Rattle.protobuf_parse_run.specs.Loading.{IsDecided, ElaboratesOver, asked_by, chain_texts}
use Rattle.protobuf_parse_run.specs.Loading.{legal_by, named_trees, descriptor_in, trees_of}
use Rattle.protobuf_parse_run.specs.Frames.{Meets, StandsMet, frame_path}

-- ---- which events are kept after a call, by those that were

abbrev pub NowKept : Type 0
NowKept = Trees → List Event → List Event

-- after the walk of this path, whose file may lie at a path of its own, from the empty chain
abbrev pub with_file : Text → Option (Bor (List ℕ)) → NowKept
with_file p own trees kept = keep kept (walk trees p (asked_by own) 100 [] p)

-- Where no event failed so far, the call comes to the end of these events, and the loader has
-- loaded what they load; or it stops at the first of them that fails, or for want of memory.
abbrev pub GoesTo : {R I : Type 0} → (R → MayResolve) → (I → MayRead) → Sources R I → NowKept
    → Loader → Loader → Result (Unit {0}) RunFault → Type 0
GoesTo may_answer may_read sources after old new result =
    (files : Files) (kept : List Event)
    → let legal = legal_by may_answer may_read sources in
    GoesOn files (rows sources.bundled.now) new.reads.items
    → Good legal files kept old.loaded.entries old.reads.items []
    → Goes legal files
    (after files.trees kept) new.loaded.entries new.reads.items result

-- There it met one file more than the files that were loaded by it have import statements; no more
-- than that, where it stopped.
abbrev pub CountsTo : {R I : Type 0} → (R → MayResolve) → (I → MayRead) → Sources R I → NowKept
    → Loader → Loader → Result (Unit {0}) RunFault → Type 0
CountsTo may_answer may_read sources after old new result =
    (files : Files) (kept : List Event)
    → let legal = legal_by may_answer may_read sources in
    GoesOn files (rows sources.bundled.now) new.reads.items
    → Good legal files kept old.loaded.entries old.reads.items []
    → IsCounted (new.meets + import_statements files.trees kept)
    (old.meets + 1 + import_statements files.trees (after files.trees kept)) result

-- ---- a run over these inputs, from its beginning

-- It comes to the end of their events, or stops so.
abbrev pub GoesThrough : {R I : Type 0} → (R → MayResolve) → (I → MayRead) → Sources R I
    → List Input → Loader → Result (Unit {0}) RunFault → Type 0
GoesThrough may_answer may_read sources inputs new result =
    (files : Files) → GoesOn files (rows sources.bundled.now) new.reads.items
    → Goes (legal_by may_answer may_read sources) files (events files.trees inputs)
    new.loaded.entries new.reads.items result

-- It met a file for each input and for each import statement of the loaded files; no more than
-- that, where it stopped.
abbrev pub CountsThrough : {R I : Type 0} → Sources R I → List Input → Loader
    → Result (Unit {0}) RunFault → Type 0
CountsThrough sources inputs new result =
    (files : Files) → GoesOn files (rows sources.bundled.now) new.reads.items
    → IsCounted new.meets
    (length inputs + import_statements files.trees (events files.trees inputs)) result

-- ---- whatever the trees are

-- What is to be known of loaded files is known of these.
abbrev pub KnowsFiles : Loader → Type 0
KnowsFiles loader = AreKnown loader.loaded.entries loader.tables loader.reads.items

-- The index of what custom options name has the first of the loaded files.
abbrev pub HasIndex : Loader → Type 0
HasIndex loader = IndexBegins loader.tables.spots (map descriptor_in loader.loaded.entries)

-- Where each text that was read had one tree or none, so has each that is read by now.
abbrev pub StaysDecided : {R I : Type 0} → Sources R I → Loader → Loader → Type 0
StaysDecided sources old new =
    IsDecided (rows sources.bundled.now) old.reads.items
    → IsDecided (rows sources.bundled.now) new.reads.items

-- It met one file, and at most 2 ^ 64 more for each of its reads.
abbrev pub MeetsFew : Loader → Loader → Type 0
MeetsFew old new =
    new.meets + length old.reads.items * 2 ^ 64 ≤ old.meets + 1 + length new.reads.items * 2 ^ 64

-- With one more, at most 2 ^ 65 files were met, and 2 ^ 64 more for each read: so few can be
-- counted.
abbrev pub CanMeet : Loader → Type 0
CanMeet old = old.meets + 1 ≤ 2 ^ 65 + length old.reads.items * 2 ^ 64

-- What comes of loading an input, from the empty chain, where `after` has the events that are kept
-- then.
pub record Loads {R I : Type 0} (may_answer : R → MayResolve) (may_read : I → MayRead)
    (sources : Sources R I) (after : NowKept) (old new : Loader)
    (result : Result (Unit {0}) RunFault) : Type 0 where
  pub grows : Grows old.reads.items new.reads.items
  pub chain : OnOk result (new.chain.items ≡ [])
  pub bound : OnOk result (MeetsFew old new)
  pub goes : GoesTo may_answer may_read sources after old new result
  pub count : CountsTo may_answer may_read sources after old new result
  pub decided : StaysDecided sources old new
  pub known : OnOk result (KnowsFiles new)

-- ---- one file at the end of the chain

-- Where no event failed so far, a loaded file adds no event, and any other is opened; or the call
-- stops at the first event that fails, or for want of memory.
abbrev pub MeetsAt : {R I : Type 0} → (R → MayResolve) → (I → MayRead) → Sources R I → Text
    → Asked → Text → Loader → Loader → Result Met RunFault → Type 0
MeetsAt may_answer may_read sources input asked path old new result =
    (files : Files) (kept : List Event)
    → let legal = legal_by may_answer may_read sources in
    let chain = chain_texts old.chain.items in
    GoesOn files (rows sources.bundled.now) new.reads.items
    → Good legal files kept old.loaded.entries old.reads.items chain
    → Meets legal files kept input asked chain path old.loaded.entries
    new.reads.items result

-- What comes of meeting a file: nothing more is loaded, one meeting is counted, and at most one
-- read is added.
pub record MeetsFile {R I : Type 0} (may_answer : R → MayResolve) (may_read : I → MayRead)
    (sources : Sources R I) (input : Text) (asked : Asked) (path : Text) (old new : Loader)
    (result : Result Met RunFault) : Type 0 where
  pub loaded : new.loaded ≡ old.loaded
  pub tables : new.tables ≡ old.tables
  pub meets : new.meets ≡ old.meets + 1
  pub grows : Grows old.reads.items new.reads.items
  pub decided : StaysDecided sources old new
  pub stands : StandsMet (chain_texts old.chain.items) path old.loaded.entries old.reads.items
      (chain_texts new.chain.items) new.reads.items result
  pub leaves : MeetsAt may_answer may_read sources input asked path old new result

-- What comes of elaborating the file of a frame: it leaves the end of the chain and is loaded, as
-- what its tree becomes; or the fault stands there. Nothing is read and nothing is met.
pub record ElaboratesFrame (frame : LoadFrame) (old new : Loader)
    (result : Result LoadedAs RunFault) : Type 0 where
  pub reads : new.reads ≡ old.reads
  pub meets : new.meets ≡ old.meets
  pub chain : (chain : List Text) → chain_texts old.chain.items ≡ chain ++ frame_path frame ∷ []
      → chain_texts new.chain.items ≡ chain
  pub height : IfOk result (λ placed. placed.height ≡ frame.height + 1)
  pub elaborates : TableTells old.tables.names (trees_of (named_trees old.loaded.entries))
      → ElaboratesOver (frame_path frame) (file_syntax frame.tree)
      (frame.height + 1) frame.read
      frame.below.items frame.public.items old.reads.items old.loaded.entries new.loaded.entries
      new.tables result
