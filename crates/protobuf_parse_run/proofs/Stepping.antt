-- What the steps of loading do to a run at a stack of frames.
use Rattle.protobuf_parse_options.specs.WithoutOptions.{bare_file}
use Rattle.std.proofs.Common.{◌≡◌, ℕ, suc, ◌+◌, ◌-◌, ◌<◌, ◌≤◌, false, inl, inr, List, [], ◌∷◌, ◌++◌}
use Rattle.std.proofs.Common.{Option, Some, None, Result, Ok, Err, refl, sym, ◌∙◌, ap, subst}
use Rattle.std.proofs.Common.{append_assoc, append-nil, length, max, arith, take, slice_get}
use Rattle.std.proofs.Common.{add-one}
use Rattle.std.specs.List.{AllByRecursion}
use Rattle.protobuf_parse_base.specs.PathViews.{path_buf_text}
use Rattle.protobuf_parse_syntax.specs.Trees.{FileSyntax, file_syntax}
use Rattle.protobuf_parse_syntax.specs.declared.tree.FileStatement.{FileStatement}
use Rattle.protobuf_parse_syntax.specs.declared.tree.FileStatement.TheVariants as file_statement
use Rattle.protobuf_parse_syntax.specs.declared.tree.Import.{Import}
use Rattle.protobuf_parse_model.specs.Descriptors.{Text}
use Rattle.protobuf_parse_elaboration.specs.FileDescriptor.{file_of}
use Rattle.protobuf_parse_run.specs.declared.tables.Tables.{Tables}
use Rattle.protobuf_parse_run.specs.declared.fault.RunFault.{RunFault}
use Rattle.protobuf_parse_run.specs.declared.fault.RunFault.TheVariants as fault
use Rattle.protobuf_parse_run.specs.declared.frame.LoadFrame.{LoadFrame}
use Rattle.protobuf_parse_run.specs.declared.loader.LoadedAs.{LoadedAs}
use Rattle.protobuf_parse_run.specs.declared.log.ReadEntry.{ReadEntry}
use Rattle.protobuf_parse_run.specs.declared.log.ReadOutcome.{ReadOutcome}
use Rattle.protobuf_parse_run.specs.Walks.{Asked, the_resolver, Event, load, elab, keep, among}
use Rattle.protobuf_parse_run.specs.Walks.{Trees, import_paths, walks_joined, import_statements}
use Rattle.protobuf_parse_run.specs.Walks.{walk}
use Rattle.protobuf_parse_run.proofs.ToldFirst.{told-failing}
use Rattle.protobuf_parse_run.specs.Run.{faults_at}
use Rattle.protobuf_parse_run.specs.Run.{Files, IsToldAt, StandsInElab}
use Rattle.protobuf_parse_run.specs.Run.{environment_of}
use Rattle.protobuf_parse_run.specs.Run.{first_read}
use Rattle.protobuf_parse_run.specs.Run.{origin_given, Legal}
use Rattle.protobuf_parse_run.specs.PlainRuns.{plain_of}
use Rattle.protobuf_parse_run.specs.Loading.{AreKnown, FilesAreNumbered, LoadedEntry, GoesOn, Good}
use Rattle.protobuf_parse_run.specs.Loading.{Grows, IsAdded, IsLoaded, Leaves, Settled}
use Rattle.protobuf_parse_run.specs.Loading.{ElaboratesFile}
use Rattle.protobuf_parse_run.specs.Loading.{ElaboratesOver, Stops, Within, file_at, path_shape}
use Rattle.protobuf_parse_run.specs.Loading.{imports_shape, named_trees}
use Rattle.protobuf_parse_run.specs.Frames.{IsHeld, IsNew, IsOpened, IsRunning, IsSame, IsTaken}
use Rattle.protobuf_parse_run.specs.Frames.{Joined, chain_of, done_in, imports_in, later_in}
use Rattle.protobuf_parse_run.specs.Frames.{left_in, owed, frame_path, to_meet, todo}
use Rattle.protobuf_parse_run.proofs.Keeping.{among-last, has-left, keep-append, keep-fresh}
use Rattle.protobuf_parse_run.proofs.Walking.{joined-append, settled-join, settled-more}
use Rattle.protobuf_parse_run.proofs.Walking.{settled-same, walk-load}
use Rattle.protobuf_parse_run.proofs.Steps.{breaks-now, get-grown, good-elab, halts-at, room-is}
use Rattle.protobuf_parse_run.proofs.Steps.{stops-more}
use Rattle.protobuf_parse_run.proofs.Leaving.{stands-failing}
use Rattle.protobuf_parse_run.proofs.Reordering.{packages-read}
use Rattle.protobuf_parse_run.proofs.Elaborating.{IsNext, agrees-made, made-alike, settled-in}
use Rattle.protobuf_parse_run.proofs.Counting.{after-load, count-grows, statements-append}
use Rattle.protobuf_parse_run.proofs.Stacks.{chain_of-push, done-import, done-other, frames-into}
use Rattle.protobuf_parse_run.proofs.Stacks.{frames-pop, frames-push, left-import, left-joined}
use Rattle.protobuf_parse_run.proofs.Stacks.{left-other, none-left, to_meet-push, todo-push}
use Rattle.protobuf_parse_run.proofs.Taking.{done-all}

-- ** what a frame owes

-- the next import's walk comes first
owed-next : (trees : Trees) (i : Text) (c inner : List Text) (p q : Text) (left later : List Text)
    (rest : List Event) → inner ≡ c ++ p ∷ [] → left ≡ q ∷ later
    → owed trees i c p left ++ rest ≡ walk trees i the_resolver (100 - length inner) inner q
    ++ (owed trees i c p later ++ rest)
owed-next trees i c inner p q left later rest same e =
    let w : Text
    → List Event = walk trees i the_resolver (100 - length (c ++ p ∷ [])) (c ++ p ∷ []) in
    rw (same, e) (ap (λ z. z ++ rest) (append_assoc (w q) (walks_joined w later) (elab p ∷ []))
    ∙ append_assoc (w q) (walks_joined w later ++ elab p ∷ []) rest)

owed-none : (trees : Trees) (i : Text) (c : List Text) (f : LoadFrame)
    → length f.tree.statements.items ≤ f.next
    → owed trees i c (frame_path f) (left_in f) ≡ elab (frame_path f) ∷ []
owed-none trees i c f le = ap (owed trees i c (frame_path f)) (none-left f le)

owed-joined : (trees : Trees) (i : Text) (c : List Text) (old new : LoadFrame) (placed : LoadedAs)
    → Joined old placed new → owed trees i c (frame_path new) (left_in new)
    ≡ owed trees i c (frame_path old) (later_in old)
owed-joined trees i c old new placed j = rw (j.path_is, j.tree_is, j.next) refl

-- a file's walk, where it is read now
pub walk-read : (trees : Trees) (i : Text) (a : Asked) (c : List Text) (q : Text) (t : FileSyntax)
    → length c < 100 → among q c ≡ false → trees q ≡ Some t
    → walk trees i a (100 - length c) c q ≡ load a q ∷ owed trees i c q (import_paths t)
walk-read trees i a c q t lt off is =
    rw (room-is c q lt) (walk-load trees i a (100 - length (c ++ q ∷ [])) c q off ∙ (rw is refl))

-- ** frames that are held

held-more : (files : Files) (now more : List Event) (log new : List ReadEntry) (f : LoadFrame)
    → Within now more → Grows log new → IsHeld files now log f → IsHeld files more new f
held-more files now more log new f w grows h = record {
  load = w (load the_resolver (frame_path f)) h.load;
  is = h.is;
  settled = settled-more now more f.height (imports_shape files.trees (done_in f)) h.settled w;
  entry = h.entry;
  found = get-grown log new f.read h.entry grows h.found;
  named = h.named;
  first = h.first;
}

all_held-more : (files : Files) (now more : List Event) (log new : List ReadEntry)
    (fs : List LoadFrame) → Within now more → Grows log new
    → AllByRecursion (IsHeld files now log) fs → AllByRecursion (IsHeld files more new) fs
all_held-more files now more log new fs w grows a =
    frames-into (IsHeld files now log) (IsHeld files more new)
    (λ f h. held-more files now more log new f w grows h) fs a

by_resolver : (trees : Trees) (kept : List Event) (k : ℕ) (q : Text)
    → Settled kept k (path_shape trees q)
    → Settled kept k (λ b c room z. walk trees b the_resolver room z q)
by_resolver trees kept k q s = record {
  before = s.before;
  within = s.within;
  only = λ b c room z v e h. s.only b the_resolver room z v e h;
  tall = λ b c room z v. s.tall b the_resolver room z v;
}

settled-next : (trees : Trees) (now : List Event) (h k : ℕ) (done : List Text) (q : Text)
    → Settled now h (imports_shape trees done) → Settled now k (path_shape trees q)
    → Settled now (max h k) (imports_shape trees (done ++ q ∷ []))
settled-next trees now h k done q s t =
    settled-same now (max h k)
    (λ b c room z. walks_joined (walk trees b the_resolver room z) done
    ++ walk trees b the_resolver room z q) _
    (λ b c room z. joined-append (walk trees b the_resolver room z) done (q ∷ [])
    ∙ ap (λ y. walks_joined (walk trees b the_resolver room z) done ++ y)
    (append-nil (walk trees b the_resolver room z q)))
    (settled-join now now h k (imports_shape trees done)
    (λ b c room z. walk trees b the_resolver room z q) s (by_resolver trees now k q t)
    (λ e v. v))

-- a frame that takes its next import
held-joined : (files : Files) (now : List Event) (log : List ReadEntry) (old new : LoadFrame)
    (placed : LoadedAs) (i : Import) (q : Text) → IsHeld files now log old
    → slice_get old.tree.statements.items old.next ≡ Some (file_statement.Import i)
    → path_buf_text i.path ≡ q → Settled now placed.height (path_shape files.trees q)
    → Joined old placed new → IsHeld files now log new
held-joined files now log old new placed i q h at named s j =
    let next : done_in new ≡ imports_in (take (suc old.next) old.tree.statements.items) =
    rw (j.tree_is, j.next) refl in
    let done : done_in new ≡ done_in old ++ q ∷ [] = next
    ∙ (done-import old.tree.statements.items old.next i at
    ∙ ap (λ z. done_in old ++ z ∷ []) named) in
    record {
      load = rw j.path_is h.load;
      is = rw (j.path_is, j.tree_is) h.is;
      settled =
          rw (j.height, done)
          (settled-next files.trees now old.height placed.height (done_in old) q h.settled s);
      entry = h.entry;
      found = rw j.read_is h.found;
      named = rw j.path_is h.named;
      first = rw j.path_is h.first;
    }

module _ (legal : Legal) (files : Files) (kept events : List Event) (i : Text)
    (start : ℕ) where
  abbrev pub Running : ℕ → List LoadFrame → LoadFrame → List LoadedEntry → List ReadEntry → Type 0
  Running meets stack top loaded log =
      IsRunning legal files kept events i start meets stack top loaded log

  -- a statement that is no import
  pub running-other : (stack : List LoadFrame) (old new : LoadFrame) (x : FileStatement) (meets : ℕ)
      (loaded : List LoadedEntry) (log : List ReadEntry) → Running meets stack old loaded log
      → slice_get old.tree.statements.items old.next ≡ Some x
      → ((im : Import) → x ≡ file_statement.Import im → ⊥)
      → new ≡ record old { next = suc old.next } → Running meets stack new loaded log
  running-other stack old new x meets loaded log r at other is =
      let l = left-other old.tree.statements.items old.next x at other in
      let d : done_in (record old { next = suc old.next })
      ≡ done_in old = done-other old.tree.statements.items old.next x at other in
      rw is (record {
        now = r.now;
        is = r.is
            ∙ ap (λ z.
            keep r.now (owed files.trees i (chain_of [] stack) (frame_path old) z
            ++ todo files.trees i [] stack)) l;
        good = r.good;
        held = record {
          load = r.held.load;
          is = r.held.is;
          settled = rw d r.held.settled;
          entry = r.held.entry;
          found = r.held.found;
          named = r.held.named;
          first = r.held.first;
        };
        below = r.below;
        count = (let e = ap length l in omega (arith, e, r.count));
      })

  -- an import that is loaded already
  pub running-known : (stack : List LoadFrame) (old new : LoadFrame) (placed : LoadedAs)
      (im : Import)
      (meets more : ℕ) (inner : List Text) (loaded : List LoadedEntry) (log after : List ReadEntry)
      (r : Running meets stack old loaded log) → inner ≡ chain_of [] stack ++ frame_path old ∷ []
      → slice_get old.tree.statements.items old.next ≡ Some (file_statement.Import im)
      → more ≡ meets + 1 → Grows log after
      → (Good legal files r.now loaded log inner
      → Good legal files r.now loaded after inner
      × IsSame files r.now i the_resolver inner (path_buf_text im.path) placed)
      → Joined old placed new → Running more stack new loaded after
  running-known stack old new placed im meets more inner loaded log after r same at met grows gives
      j =
      let q : Text = path_buf_text im.path in
      let k = gives (rw same r.good) in
      let c : List Text = chain_of [] stack in
      let l = left-import old.tree.statements.items old.next im at in
      let rest : List Event = owed files.trees i c (frame_path old) (later_in old)
      ++ todo files.trees i [] stack in
      record {
        now = r.now;
        is = r.is
            ∙ (ap (keep r.now)
            (owed-next files.trees i c inner (frame_path old) q (left_in old) (later_in old)
            (todo files.trees i [] stack) same l)
            ∙ (keep-append r.now (walk files.trees i the_resolver (100 - length inner) inner q) rest
            ∙ (ap (λ z. keep z rest) k.1.again
            ∙ ap (λ z. keep r.now (z ++ todo files.trees i [] stack))
            (sym (owed-joined files.trees i c old new placed j)))));
        good = rw j.path_is (rw same at k.0);
        held = held-joined files r.now after old new placed im q
            (held-more files r.now r.now log after old (λ e v. v) grows r.held) at refl k.1.settled
            j;
        below = all_held-more files r.now r.now log after stack (λ e v. v) grows r.below;
        count = (let e = ap length l in
            let f = ap length (left-joined old new placed j) in omega (arith, e, f, met, r.count));
      }

  -- an import that is read now: a frame for it
  pub running-new : (stack : List LoadFrame) (old frame : LoadFrame) (im : Import) (meets more : ℕ)
      (inner outer : List Text) (loaded : List LoadedEntry) (log after : List ReadEntry)
      (r : Running meets stack old loaded log) → inner ≡ chain_of [] stack ++ frame_path old ∷ []
      → slice_get old.tree.statements.items old.next ≡ Some (file_statement.Import im)
      → more ≡ meets + 1 → Grows log after
      → (Good legal files r.now loaded log inner
      → IsNew legal files r.now the_resolver inner
      (path_buf_text im.path) loaded after frame)
      → IsOpened inner (path_buf_text im.path) loaded log outer after frame
      → Running more (stack ++ old ∷ []) frame loaded after
  running-new stack old frame im meets more inner outer loaded log after r same at met grows gives
      o =
      let k = gives (rw same r.good) in
      let c : List Text = chain_of [] stack in
      let q : Text = path_buf_text im.path in
      let now : List Event = r.now ++ load the_resolver q ∷ [] in
      let w : Within r.now now = λ e v. has-left e r.now (load the_resolver q ∷ []) v in
      let l = left-import old.tree.statements.items old.next im at in
      let rest : List Event = owed files.trees i c (frame_path old) (later_in old)
      ++ todo files.trees i [] stack in
      let chain : chain_of [] (stack ++ old ∷ []) ≡ inner = chain_of-push [] stack old ∙ sym same in
      let is : files.trees q ≡ Some (file_syntax frame.tree) =
      subst (λ (z : Text). files.trees z ≡ Some (file_syntax frame.tree)) o.path_is k.held.is in
      let opens : walk files.trees i the_resolver (100 - length inner) inner q ≡ load the_resolver q
      ∷ owed files.trees i inner q (import_paths (file_syntax frame.tree)) =
      walk-read files.trees i the_resolver inner q (file_syntax frame.tree) o.room o.off is in
      let loads = after-load files.trees r.now the_resolver q (file_syntax frame.tree) is in
      let left : left_in frame ≡ import_paths (file_syntax frame.tree) = rw o.next refl in
      record {
        now = now;
        is = r.is
            ∙ (ap (keep r.now)
            (owed-next files.trees i c inner (frame_path old) q (left_in old) (later_in old)
            (todo files.trees i [] stack) same l ∙ ap (λ z. z ++ rest) opens)
            ∙ (keep-fresh r.now
            (owed files.trees i inner q (import_paths (file_syntax frame.tree)) ++ rest)
            (load the_resolver q) k.fresh
            ∙ (rw (chain, o.path_is, left, todo-push files.trees i [] stack old) refl)));
        good = rw (chain, o.path_is) k.good;
        held = k.held;
        below = frames-push (IsHeld files now after) stack old
            (all_held-more files r.now now log after stack w grows r.below)
            (held-more files r.now now log after old w grows r.held);
        count = (let e = ap length l in let b = ap length left in
            let t = to_meet-push stack old in omega (arith, e, b, t, loads, met, r.count));
      }

  -- ** where a run stops

  -- an import's walk stops
  pub running-stops : (stack : List LoadFrame) (old : LoadFrame) (im : Import) (meets : ℕ)
      (inner : List Text) (loaded : List LoadedEntry) (log after : List ReadEntry) (f : RunFault)
      (r : Running meets stack old loaded log) → inner ≡ chain_of [] stack ++ frame_path old ∷ []
      → slice_get old.tree.statements.items old.next ≡ Some (file_statement.Import im)
      → (Good legal files r.now loaded log inner
      → Stops legal files
      (keep r.now
      (walk files.trees i the_resolver (100 - length inner) inner (path_buf_text im.path))) after f)
      → Stops legal files events after f
  running-stops stack old im meets inner loaded log after f r same at stops =
      let c : List Text = chain_of [] stack in
      let q : Text = path_buf_text im.path in
      let rest : List Event = owed files.trees i c (frame_path old) (later_in old)
      ++ todo files.trees i [] stack in
      let l = left-import old.tree.statements.items old.next im at in
      let e : events
      ≡ keep (keep r.now (walk files.trees i the_resolver (100 - length inner) inner q)) rest =
      r.is ∙ (ap (keep r.now)
      (owed-next files.trees i c inner (frame_path old) q (left_in old) (later_in old)
      (todo files.trees i [] stack) same l)
      ∙ keep-append r.now (walk files.trees i the_resolver (100 - length inner) inner q) rest)
      in
      rw e (stops-more legal files
      (keep r.now (walk files.trees i the_resolver (100 - length inner) inner q)) rest after f
      (stops (rw same r.good)))

  -- memory runs out between two steps
  pub running-breaks : (stack : List LoadFrame) (top : LoadFrame) (meets : ℕ)
      (loaded : List LoadedEntry)
      (log : List ReadEntry) (f : RunFault) → Running meets stack top loaded log → f ≡ fault.Memory
      → Stops legal files events log f
  running-breaks stack top meets loaded log f r m =
      let rest : List Event = owed files.trees i (chain_of [] stack) (frame_path top) (left_in top)
      ++ todo files.trees i [] stack in
      rw r.is (breaks-now legal files r.now rest loaded log
      (chain_of [] stack ++ frame_path top ∷ []) f r.good m)

  -- or after an import that is loaded already
  pub known-breaks : (stack : List LoadFrame) (old : LoadFrame) (placed : LoadedAs) (q : Text)
      (meets : ℕ) (inner : List Text) (loaded : List LoadedEntry) (log after : List ReadEntry)
      (f : RunFault) (r : Running meets stack old loaded log)
      → inner ≡ chain_of [] stack ++ frame_path old ∷ []
      → (Good legal files r.now loaded log inner
      → Good legal files r.now loaded after inner
      × IsSame files r.now i the_resolver inner q placed) → f ≡ fault.Memory
      → Stops legal files events after f
  known-breaks stack old placed q meets inner loaded log after f r same gives m =
      let k = gives (rw same r.good) in
      let rest : List Event = owed files.trees i (chain_of [] stack) (frame_path old) (left_in old)
      ++ todo files.trees i [] stack in
      rw r.is (breaks-now legal files r.now rest loaded after inner f k.0 m)

  -- no more was met than there is to meet
  pub counted-now : (stack : List LoadFrame) (top : LoadFrame) (meets : ℕ)
      (loaded : List LoadedEntry)
      (log : List ReadEntry) → Running meets stack top loaded log
      → meets + import_statements files.trees kept
      ≤ start + 1 + import_statements files.trees events
  counted-now stack top meets loaded log r =
      let rest : List Event = owed files.trees i (chain_of [] stack) (frame_path top) (left_in top)
      ++ todo files.trees i [] stack in
      let m = count-grows files.trees r.now rest in
      let e = ap (import_statements files.trees) r.is in
      omega (arith, m, e, r.count)

  pub counted-next : (stack : List LoadFrame) (top : LoadFrame) (im : Import) (meets more : ℕ)
      (loaded : List LoadedEntry) (log : List ReadEntry) → Running meets stack top loaded log
      → slice_get top.tree.statements.items top.next ≡ Some (file_statement.Import im)
      → more ≡ meets + 1 → more + import_statements files.trees kept
      ≤ start + 1 + import_statements files.trees events
  counted-next stack top im meets more loaded log r at met =
      let rest : List Event = owed files.trees i (chain_of [] stack) (frame_path top) (left_in top)
      ++ todo files.trees i [] stack in
      let m = count-grows files.trees r.now rest in
      let e = ap (import_statements files.trees) r.is in
      let l = ap length (left-import top.tree.statements.items top.next im at) in
      omega (arith, m, e, l, met, r.count)

  -- ** a file whose imports are loaded

  elab-next : (stack : List LoadFrame) (top : LoadFrame) (meets : ℕ) (loaded : List LoadedEntry)
      (log : List ReadEntry) (r : Running meets stack top loaded log)
      → length top.tree.statements.items ≤ top.next
      → events ≡ keep (r.now ++ elab (frame_path top) ∷ []) (todo files.trees i [] stack)
  elab-next stack top meets loaded log r le =
      r.is ∙ (ap (λ z. keep r.now (z ++ todo files.trees i [] stack))
      (owed-none files.trees i (chain_of [] stack) top le)
      ∙ keep-fresh r.now (todo files.trees i [] stack) (elab (frame_path top))
      (r.good.apart (frame_path top) (among-last (frame_path top) (chain_of [] stack))))

  -- what its elaboration leaves
  pub running-closes : (stack : List LoadFrame) (top : LoadFrame) (meets : ℕ)
      (loaded later : List LoadedEntry) (tables after : Tables) (log : List ReadEntry)
      (res : Result LoadedAs RunFault) (r : Running meets stack top loaded log)
      (table : List (Text × Text)) (full : List ReadEntry) → GoesOn files table full
      → AreKnown loaded tables log → IsTaken loaded log top → file_at (frame_path top) loaded ≡ None
      → among (frame_path top) (chain_of [] stack) ≡ false
      → length top.tree.statements.items ≤ top.next → top.height < 100
      → ElaboratesOver (frame_path top) (file_syntax top.tree)
      (top.height + 1) top.read top.below.items top.public.items log loaded later after res
      → Leaves legal files (r.now ++ elab (frame_path top) ∷ [])
      (path_shape files.trees (frame_path top)) later log (chain_of [] stack) res
  running-closes stack top meets loaded later tables after log res r table full go known taken none
      off le low over =
      let numbered : FilesAreNumbered (named_trees loaded) top.below.items
      (import_paths (file_syntax top.tree)) =
      subst (λ (z : List Text). FilesAreNumbered (named_trees loaded) top.below.items z)
      (done-all top le) taken.numbered in
      let agrees = agrees-made files log loaded r.good.made in
      let next : IsNext files loaded tables log (frame_path top)
      (file_syntax top.tree) top.below.items =
      record {
        listed = go.listed;
        packages = packages-read files table full go;
        known = known;
        agrees = agrees;
        alike = made-alike files log loaded r.good.made;
        is = r.held.is;
        none = none;
        numbered = numbered;
      } in
      let elaborates = settled-in files loaded later tables after (frame_path top)
      (file_syntax top.tree)
      (top.height + 1) top.read top.below.items top.public.items log res next
      over in
      ends res elaborates
    where
      p : Text
      p = frame_path top

      t : FileSyntax
      t = file_syntax top.tree

      ends : (res : Result LoadedAs RunFault)
          → ElaboratesFile files p t (top.height + 1) top.read log loaded later res
          → Leaves legal files (r.now ++ elab p ∷ []) (path_shape files.trees p) later log
          (chain_of [] stack) res
      ends (Ok placed) elaborates =
          let d = subst (λ (k : ℕ). IsAdded files p t k top.read loaded later placed)
          (add-one top.height) (elaborates none) in
          let m : IsLoaded files log p d.file = record {
            low = rw d.height_is (omega (arith, low));
            is = r.held.is ∙ ap Some (sym d.tree_is);
            descriptor = d.descriptor
                ∙ ap (λ u. file_of (environment_of files p u) p u) (sym d.tree_is);
            alike = d.alike ∙ ap (λ u. bare_file (plain_of files p u)) (sym d.tree_is);
            entry = r.held.entry;
            read = rw d.read_is r.held.found;
            named = r.held.named;
            first = r.held.first;
          } in
          let s : Settled r.now top.height (imports_shape files.trees (import_paths t)) =
          subst (λ (z : List Text). Settled r.now top.height (imports_shape files.trees z))
          (done-all top le) r.held.settled in
          let g = good-elab legal files r.now loaded log (chain_of [] stack) p t top.height
          (d.key, d.file) r.good off r.held.load r.held.is d.faultless s d.named d.height_is m
          in
          rw (d.entries, d.placed_is) g
      ends (Err f) elaborates =
          elim (elaborates r.held.entry r.held.found r.held.named) [
            | inl stands ↦
                let here : StandsInElab (origin_given p (first_read p files.reads))
                (IsToldAt files p (files.trees p)) f =
                subst (λ (o : Option ReadOutcome). StandsInElab (origin_given p o)
                (IsToldAt files p (files.trees p)) f) (sym r.held.first) (subst
                (λ (o : Option FileSyntax). StandsInElab
                (origin_given p (Some r.held.entry.outcome))
                (IsToldAt files p o) f) (sym r.held.is) stands) in
                inl (halts-at legal files r.now loaded log (chain_of [] stack ++ p ∷ []) _
                (elab p) f r.good
                (stands-failing _ (IsToldAt files p (files.trees p))
                (faults_at files p (files.trees p)) f
                (λ g told. told-failing files p (files.trees p) g told) here)
                refl refl here)
            | inr memory ↦ inr
                (record {
                  memory = memory;
                  before = r.now;
                  after = elab p ∷ [];
                  split = refl;
                  clean = r.good.clean;
                  answers = r.good.answers;
                })
          ]

  -- the frame below takes it
  pub running-close : (stack full : List LoadFrame) (top old new : LoadFrame) (placed : LoadedAs)
      (im : Import) (meets : ℕ) (loaded later : List LoadedEntry) (log : List ReadEntry)
      (r : Running meets full top loaded log) → full ≡ stack ++ old ∷ []
      → length top.tree.statements.items ≤ top.next
      → Leaves legal files (r.now ++ elab (frame_path top) ∷ [])
      (path_shape files.trees (frame_path top)) later log (chain_of [] full) (Ok placed)
      → slice_get old.tree.statements.items old.next ≡ Some (file_statement.Import im)
      → path_buf_text im.path ≡ frame_path top → Joined old placed new
      → Running meets stack new later log
  running-close stack full top old new placed im meets loaded later log r whole le k at named j =
      let c : List Text = chain_of [] stack in
      let p : Text = frame_path top in
      let now : List Event = r.now ++ elab p ∷ [] in
      let grows : Grows log log = ([], sym (append-nil log)) in
      let more : AllByRecursion (IsHeld files now log) full =
      all_held-more files r.now now log log full
      (λ e v. has-left e r.now (elab p ∷ []) v) grows r.below in
      let h = frames-pop (IsHeld files now log) stack old (rw whole at more) in
      let chain : chain_of [] full ≡ c ++ frame_path old ∷ [] = ap (chain_of []) whole
      ∙ chain_of-push [] stack old in
      record {
        now = now;
        is = elab-next full top meets loaded log r le
            ∙ (ap (λ z. keep now (todo files.trees i [] z)) whole
            ∙ (ap (keep now) (todo-push files.trees i [] stack old)
            ∙ ap (λ z. keep now (z ++ todo files.trees i [] stack))
            (sym (owed-joined files.trees i c old new placed j))));
        good = rw j.path_is (rw chain at k.0);
        held = held-joined files now log old new placed im p h.1 at named k.1 j;
        below = h.0;
        count = (let a = statements-append files.trees r.now (elab p ∷ []) in
            let b = ap length (none-left top le) in
            let d = ap length (left-joined old new placed j) in
            let e = ap to_meet whole ∙ to_meet-push stack old in
            omega (arith, a, b, d, e, r.count));
      }

  -- memory runs out before it does
  pub closed-breaks : (stack : List LoadFrame) (top : LoadFrame) (placed : LoadedAs) (meets : ℕ)
      (loaded later : List LoadedEntry) (log : List ReadEntry) (f : RunFault)
      (r : Running meets stack top loaded log) → length top.tree.statements.items ≤ top.next
      → Leaves legal files (r.now ++ elab (frame_path top) ∷ [])
      (path_shape files.trees (frame_path top)) later log (chain_of [] stack) (Ok placed)
      → f ≡ fault.Memory → Stops legal files events log f
  closed-breaks stack top placed meets loaded later log f r le k m =
      rw (elab-next stack top meets loaded log r le)
      (breaks-now legal files (r.now ++ elab (frame_path top) ∷ [])
      (todo files.trees i [] stack) later log (chain_of [] stack) f k.0 m)

  -- it is refused
  pub running-refused : (stack : List LoadFrame) (top : LoadFrame) (meets : ℕ)
      (loaded : List LoadedEntry)
      (log : List ReadEntry) (f : RunFault) (r : Running meets stack top loaded log)
      → length top.tree.statements.items ≤ top.next
      → Stops legal files (r.now ++ elab (frame_path top) ∷ []) log f
      → Stops legal files events log f
  running-refused stack top meets loaded log f r le h =
      rw (elab-next stack top meets loaded log r le)
      (stops-more legal files (r.now ++ elab (frame_path top) ∷ [])
      (todo files.trees i [] stack) log f h)

  -- the lowest file is the input
  pub running-end : (stack : List LoadFrame) (top : LoadFrame) (placed : LoadedAs) (meets : ℕ)
      (loaded later : List LoadedEntry) (log : List ReadEntry)
      (r : Running meets stack top loaded log)
      → stack ≡ [] → length top.tree.statements.items ≤ top.next
      → Leaves legal files (r.now ++ elab (frame_path top) ∷ [])
      (path_shape files.trees (frame_path top)) later log (chain_of [] stack) (Ok placed)
      → Good legal files events later log []
  running-end stack top placed meets loaded later log r empty le k =
      let now : List Event = r.now ++ elab (frame_path top) ∷ [] in
      let e : events ≡ now = elab-next stack top meets loaded log r le
      ∙ ap (λ z. keep now (todo files.trees i [] z)) empty in
      let g : Good legal files now later log [] =
      subst (λ (z : List Text). Good legal files now later log z)
      (ap (chain_of []) empty) k.0 in
      rw e g

  pub counted-end : (top : LoadFrame) (meets : ℕ) (loaded : List LoadedEntry) (log : List ReadEntry)
      (r : Running meets [] top loaded log) → length top.tree.statements.items ≤ top.next
      → meets + import_statements files.trees kept
      ≡ start + 1 + import_statements files.trees events
  counted-end top meets loaded log r le =
      let a = statements-append files.trees r.now (elab (frame_path top) ∷ []) in
      let b = ap length (none-left top le) in
      let e = ap (import_statements files.trees) (elab-next [] top meets loaded log r le) in
      omega (arith, a, b, e, r.count)

-- the first file
pub running-start : (legal : Legal) (files : Files) (kept : List Event) (i : Text)
    (a : Asked)
    (p : Text) (start meets : ℕ) (outer : List Text) (frame : LoadFrame) (loaded : List LoadedEntry)
    (log after : List ReadEntry) → meets ≡ start + 1
    → IsNew legal files kept a [] p loaded after frame
    → IsOpened [] p loaded log outer after frame
    → IsRunning legal files kept (keep kept (walk files.trees i a 100 [] p)) i start meets
    [] frame loaded after
running-start legal files kept i a p start meets outer frame loaded log after met k o =
    let is : files.trees p ≡ Some (file_syntax frame.tree) =
    subst (λ (z : Text). files.trees z ≡ Some (file_syntax frame.tree)) o.path_is k.held.is in
    let loads = after-load files.trees kept a p (file_syntax frame.tree) is in
    let left : left_in frame ≡ import_paths (file_syntax frame.tree) = rw o.next refl in
    record {
      now = kept ++ load a p ∷ [];
      is = ap (keep kept) (walk-read files.trees i a [] p (file_syntax frame.tree) o.room o.off is)
          ∙ (keep-fresh kept (owed files.trees i [] p (import_paths (file_syntax frame.tree)))
          (load a p) k.fresh ∙ (rw (o.path_is, left, append-nil) refl));
      good = rw o.path_is k.good;
      held = k.held;
      below = tt;
      count = (let b = ap length left in omega (arith, b, loads, met));
    }
