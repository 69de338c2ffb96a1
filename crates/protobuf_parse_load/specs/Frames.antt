-- No public clause rests on this file.
-- Loading by a stack of files whose imports are being met: what is still to be done at the frames,
-- and what a call of the loader leaves. The lowest frame is the first of the list; the top one
-- stands beside it.
use Rattle.std.specs.Prelude.{◌≡◌, ◌⊎◌, ◌↔◌, ◌≤◌, ◌<◌, ◌+◌, ◌-◌, ◌*◌, ◌^◌, ℕ, suc, true, is_some}
use Rattle.std.specs.Prelude.{List, []}
use Rattle.std.specs.Prelude.{◌∷◌, ◌++◌, map, drop, length, Result, Ok, Err}
use Rattle.std.specs.Prelude.{OnOk, IfOk, string_bytes}
use Rattle.std.specs.List.{AllByRecursion}
use Rattle.std.specs.declared.alloc.AllocError.{AllocError}
use Rattle.protobuf_parse_syntax.specs.Dependencies.{imports}
use Rattle.protobuf_parse_syntax.specs.Trees.{ImportSyntax, statement_syntax}
use Rattle.protobuf_parse_syntax.specs.declared.tree.FileStatement.{FileStatement}
use Rattle.protobuf_parse_syntax.specs.declared.tree.FileTree.{FileTree}
use Rattle.protobuf_parse_model.specs.Descriptors.{Text}
use Rattle.protobuf_parse_run.specs.declared.fault.RunFault.{RunFault}
use Rattle.protobuf_parse_run.specs.declared.fault.RunFault.TheVariants as fault
use Rattle.protobuf_parse_run.specs.declared.log.ReadEntry.{ReadEntry}
use Rattle.protobuf_parse_run.specs.Loading.{Grows, IsDecided, ReadsTree, chain_texts, read_paths}
use Rattle.protobuf_parse_run.specs.Run.{HasTrees, Legal, MayRead, MayResolve, rows}
use Rattle.protobuf_parse_run.specs.Walks.{Asked, Trees, among, the_resolver}
use Rattle.protobuf_parse_load.specs.declared.loader.LoadFrame.{LoadFrame}
use Rattle.protobuf_parse_load.specs.declared.loader.Loader.{Loader}
use Rattle.protobuf_parse_load.specs.declared.loader.Met.{Met}
use Rattle.protobuf_parse_load.specs.declared.loader.Met.TheVariants as met
use Rattle.protobuf_parse_load.specs.declared.log.LoadedFile.{LoadedFile}
use Rattle.protobuf_parse_load.specs.declared.log.UnreadFile.{UnreadFile}
use Rattle.protobuf_parse_load.specs.declared.request.Request.{Request}
use Rattle.protobuf_parse_load.specs.declared.request.Sources.{Sources}
use Rattle.protobuf_parse_load.specs.declared.step.LoadStep.{LoadStep}
use Rattle.protobuf_parse_load.specs.Loads.{IsCutOff, IsLoadSoFar, IsLoadedFile, ReadFiles}
use Rattle.protobuf_parse_load.specs.Loads.{step_view, steps_view}
use Rattle.protobuf_parse_load.specs.Requests.{asked_in, asker_in, legal_by, path_in}
use Rattle.protobuf_parse_load.specs.Steps.{AskedBy, At, Step, back, by_import, closed, closes}
use Rattle.protobuf_parse_load.specs.Steps.{is_unread, known, meet, meets_each, opened, told}

-- ---- frames

abbrev pub frame_path : LoadFrame → Text
frame_path f = string_bytes f.file.path

-- the imports of statements
abbrev pub imports_in : List FileStatement → List ImportSyntax
imports_in xs = imports (map statement_syntax xs)

-- those that are still to be met
abbrev pub imports_left : LoadFrame → List ImportSyntax
imports_left f = imports_in (drop f.next f.file.tree.statements.items)

-- this chain with the files of these frames
abbrev pub chain_of : List Text → List LoadFrame → List Text
chain_of chain [] = chain
chain_of chain (f ∷ fs) = chain_of (chain ++ frame_path f ∷ []) fs

-- an import of the last file of a chain
abbrev pub meets_import : Trees → Text → List Text → Text → ImportSyntax → At → At
meets_import trees input chain path i a =
    meet trees input the_resolver (100 - length chain) chain (by_import path i.place) i.path a

-- these imports of it, and then its end
abbrev pub meets_at : Trees → Text → List Text → Text → List ImportSyntax → At → At
meets_at trees input chain path is a =
    closes path (meets_each (meets_import trees input chain path) is a)

-- what a load becomes behind these frames, each of which waits for the one above it, where it
-- becomes this behind the file above them
abbrev pub unwinds : Trees → Text → List Text → List LoadFrame → At → At
unwinds trees input chain [] b = b
unwinds trees input chain (f ∷ fs) b =
    meets_at trees input (chain ++ frame_path f ∷ []) (frame_path f) (imports_left f)
    (back f.height (unwinds trees input (chain ++ frame_path f ∷ []) fs b))

-- a chain through each of these frames, above so many files, has at most a hundred files
abbrev pub AreLow : ℕ → List LoadFrame → Type 0
AreLow count [] = Unit {0}
AreLow count (f ∷ fs) = (suc count + f.height ≤ 100) × AreLow (suc count) fs

-- what is left to do at a frame above so many: one statement more than there are, since it is to be
-- closed
abbrev pub weight_of : ℕ → LoadFrame → ℕ
weight_of count f = suc (length f.file.tree.statements.items - f.next) * (2 ^ 65) ^ (100 - count)

abbrev pub weight : ℕ → List LoadFrame → ℕ
weight count [] = 0
weight count (f ∷ fs) = weight_of count f + weight (suc count) fs

-- what is left to do at all frames
abbrev pub left_over : List LoadFrame → LoadFrame → ℕ
left_over stack top = weight 0 stack + weight_of (length stack) top

-- ---- where a load stands

-- with a longest chain of so many files
abbrev pub raised : ℕ → At → At
raised k a = record { steps = a.steps; reads = a.reads; unread = a.unread; height = k }

-- The files of a load with this log and these bundled files, or of one that goes on from it.
pub record GoesOn (files : ReadFiles) (bundled : List (Text × Text)) (log : List ReadEntry)
    : Type 0 where
  pub bundled_are : files.bundled ≡ bundled
  pub reads : Grows log files.reads
  pub trees : HasTrees files.bundled files.reads files.trees

-- the loader has the steps, the reads and the files of a load that stands here
abbrev pub StandsAt : Legal → ReadFiles → At → Loader → Type 0
StandsAt legal files a l =
    IsLoadSoFar legal files a l.reads.items l.steps.list l.files.items l.unread.items

-- just of the paths that were read something is known, but for those of the chain, which were read
-- too
abbrev pub Remembers : List Text → List Step → List ReadEntry → Type 0
Remembers chain steps log = (p : Text) → (among p (read_paths log) ≡ true)
    ↔ ((among p chain ≡ true) ⊎ (is_some (known p steps) ≡ true))

abbrev pub chain_in : Loader → List Text
chain_in l = chain_texts l.chain.items

abbrev pub RemembersReads : Loader → Type 0
RemembersReads l = Remembers (chain_in l) (steps_view l.steps.list) l.reads.items

-- ---- what a call leaves

-- A load that stands at the one place goes on so: it stands at another place, or memory ran out.
abbrev pub Goes : {X E : Type 0} → Legal → ReadFiles → (At → At) → At → Loader → Result X E → Type 0
Goes legal files walk a new (Ok x) = (b : At) × StandsAt legal files b new
    × ((k : ℕ) → (h : ℕ) × (walk (raised k a) ≡ raised h b))
Goes legal files walk a new (Err e) = (k : ℕ) → IsCutOff legal (walk (raised k a)) new.reads.items

-- What comes of a call, where the walk depends on the trees.
pub record Loads {R I : Type 0} (may_answer : R → MayResolve) (may_read : I → MayRead)
    (sources : Sources R I) (walk : Trees → At → At) (old new : Loader)
    (result : Result (Unit {0}) AllocError) : Type 0 where
  pub grows : Grows old.reads.items new.reads.items
  pub decided : IsDecided (rows sources.bundled.now) new.reads.items
  pub chain : OnOk result (new.chain.items ≡ [])
  pub remembers : OnOk result (RemembersReads new)
  pub goes : (files : ReadFiles) (a : At)
      → GoesOn files (rows sources.bundled.now) new.reads.items
      → StandsAt (legal_by may_answer may_read sources) files a old
      → Goes (legal_by may_answer may_read sources) files (walk files.trees) a new result

-- a step is added, which says this
abbrev pub AddsStep : List LoadStep → List LoadStep → Step → Type 0
AddsStep old new s = (x : LoadStep) × (new ≡ old ++ x ∷ []) × (step_view x ≡ s)

-- what meeting a path leaves of the chain
abbrev pub LeavesChain : Text → Loader → Loader → Result Met AllocError → Type 0
LeavesChain p old new (Ok (met.Joined h)) =
    (chain_in new ≡ chain_in old) × (length (chain_in old) + h ≤ 100) × RemembersReads new
LeavesChain p old new (Ok (met.Opened file)) =
    (chain_in new ≡ chain_in old ++ p ∷ []) × (length (chain_in old) < 100) × RemembersReads new
    × (string_bytes file.path ≡ p)
LeavesChain p old new (Err e) = Unit {0}

-- what a load becomes that meets a path
abbrev pub Meets : Legal → ReadFiles → Text → Asked → List Text → AskedBy → Text → At → Loader
    → Result Met AllocError → Type 0
Meets legal files input asked chain by p a new (Ok (met.Joined h)) =
    (b : At) × StandsAt legal files b new
    × ((k : ℕ) → meet files.trees input asked (100 - length chain) chain by p (raised k a)
    ≡ back h (raised k b))
Meets legal files input asked chain by p a new (Ok (met.Opened file)) =
    (b : At) × StandsAt legal files b new × IsLoadedFile files p file
    × ((k : ℕ) → meet files.trees input asked (100 - length chain) chain by p (raised k a)
    ≡ back k
    (meets_at files.trees input (chain ++ p ∷ []) p (imports_in file.tree.statements.items)
    (raised 0 b)))
Meets legal files input asked chain by p a new (Err e) =
    (k : ℕ) → IsCutOff legal
    (meet files.trees input asked (100 - length chain) chain by p (raised k a)) new.reads.items

-- What comes of meeting what asks for a file, at the end of the chain.
pub record MeetsFile {R I : Type 0} (may_answer : R → MayResolve) (may_read : I → MayRead)
    (sources : Sources R I) (input : Text) (request : Request) (old new : Loader)
    (result : Result Met AllocError) : Type 0 where
  pub grows : Grows old.reads.items new.reads.items
  pub decided : IsDecided (rows sources.bundled.now) new.reads.items
  pub chain : LeavesChain (path_in request) old new result
  pub goes : (files : ReadFiles) (a : At)
      → GoesOn files (rows sources.bundled.now) new.reads.items
      → StandsAt (legal_by may_answer may_read sources) files a old
      → Meets (legal_by may_answer may_read sources) files input (asked_in request) (chain_in old)
      (asker_in request) (path_in request) a new result

-- What comes of opening the file of a request, whose tree a read gave.
pub record OpensFile (request : Request) (read : ℕ) (tree : FileTree) (old new : Loader)
    (result : Result Met AllocError) : Type 0 where
  pub reads : new.reads ≡ old.reads
  pub files : new.files ≡ old.files
  pub unread : new.unread ≡ old.unread
  pub step : OnOk result (AddsStep old.steps.list new.steps.list
      (opened (asker_in request) (path_in request)))
  pub chain : OnOk result (chain_in new ≡ chain_in old ++ path_in request ∷ [])
  pub file : IfOk result (λ m. (file : LoadedFile) × (m ≡ met.Opened file)
      × (string_bytes file.path ≡ path_in request) × (file.read ≡ read) × (file.tree ≡ tree))

-- What comes of it where the read gave this fault.
pub record MissesFile (request : Request) (read : ℕ) (why : RunFault) (old new : Loader)
    (result : Result Met AllocError) : Type 0 where
  pub reads : new.reads ≡ old.reads
  pub files : new.files ≡ old.files
  pub chain : new.chain ≡ old.chain
  pub step : OnOk result (AddsStep old.steps.list new.steps.list
      (told (asker_in request) (path_in request) (is_unread (length old.unread.items))))
  pub joined : IfOk result (λ m. m ≡ met.Joined 0)
  pub file : OnOk result ((file : UnreadFile) × (new.unread.items ≡ old.unread.items ++ file ∷ [])
      × (string_bytes file.path ≡ path_in request) × (file.read ≡ read) × (file.fault ≡ why))

-- what comes of it, where reading gave this
abbrev pub HasRead : Request → ℕ → Loader → Loader → Result FileTree RunFault
    → Result Met AllocError → Type 0
HasRead request read old new (Ok tree) result =
    OpensFile request read tree (record old { reads = new.reads }) new result
HasRead request read old new (Err f) result = IfOk result (λ m. ⊥)
    ⊎ ((f ≡ fault.Memory → ⊥)
    × MissesFile request read f (record old { reads = new.reads }) new result)

-- What comes of reading a file of which nothing is known: it is opened, or told, or memory ran out,
-- before the read was noted or behind that.
pub record ReadsNew (legal : Legal) (bundled : List (Text × Text)) (request : Request)
    (old new : Loader) (result : Result Met AllocError) : Type 0 where
  pub tree : Result FileTree RunFault
  pub read : ReadsTree legal bundled (asked_in request) (path_in request) old.reads.items
      new.reads.items tree
  pub leaves : HasRead request (length old.reads.items) old new tree result

-- What comes of closing the file of a frame, the last of the chain.
pub record ClosesFile (frame : LoadFrame) (old new : Loader) (result : Result ℕ AllocError)
    : Type 0 where
  pub reads : new.reads ≡ old.reads
  pub unread : new.unread ≡ old.unread
  pub step : OnOk result (AddsStep old.steps.list new.steps.list
      (closed (frame_path frame) (suc frame.height)))
  pub files : OnOk result (new.files.items ≡ old.files.items ++ frame.file ∷ [])
  pub chain : OnOk result ((chain : List Text) → chain_in old ≡ chain ++ frame_path frame ∷ []
      → chain_in new ≡ chain)
  pub height : IfOk result (λ h. h ≡ suc frame.height)

-- A load that began at one place stands at these frames: each of their files is that of its path,
-- and what the load becomes is what is behind the frames.
pub record IsRunning (legal : Legal) (files : ReadFiles) (walk : At → At) (input : Text) (a : At)
    (stack : List LoadFrame) (top : LoadFrame) (l : Loader) : Type 0 where
  pub now : At
  pub stands : StandsAt legal files now l
  pub file : IsLoadedFile files (frame_path top) top.file
  pub below : AllByRecursion (λ (f : LoadFrame). IsLoadedFile files (frame_path f) f.file) stack
  pub whole : (k : ℕ) → walk (raised k a)
      ≡ back k (unwinds files.trees input [] stack
      (meets_at files.trees input (chain_of [] stack ++ frame_path top ∷ []) (frame_path top)
      (imports_left top) (raised top.height now)))
