-- What a call that loads a file leaves, at each of its ends.
use Rattle.std.proofs.Common.{◌≡◌, ℕ, suc, ◌+◌, ◌-◌, ◌<◌, Bool, true, false, inl, inr, List, []}
use Rattle.std.proofs.Common.{◌∷◌, ◌++◌, map, Option, Some, None, Ok, Err, refl, sym, ◌∙◌, ap}
use Rattle.std.proofs.Common.{subst, length, arith, take, drop, get_or, drop-cons, not}
use Rattle.std.specs.Prelude.{String, string_bytes}
use Rattle.std.specs.Global.{Global}
use Rattle.std.proofs.lemmas.List.{length-map, map-append, length_push, take_at, take_more}
use Rattle.std.proofs.lemmas.List.{take-append-drop}
use Rattle.protobuf_parse_syntax.specs.Trees.{file_syntax}
use Rattle.protobuf_parse_syntax.specs.declared.tree.FileTree.{FileTree}
use Rattle.protobuf_parse_model.specs.Descriptors.{Text}
use Rattle.protobuf_parse_model.specs.Faults as elaborating
use Rattle.protobuf_parse_model.specs.Faults.{fault_view}
use Rattle.protobuf_parse_run.specs.declared.fault.RunFault.{RunFault}
use Rattle.protobuf_parse_run.specs.declared.fault.RunFault.TheVariants as fault
use Rattle.protobuf_parse_run.specs.declared.loader.LoadedAs.{LoadedAs}
use Rattle.protobuf_parse_run.specs.declared.log.ReadEntry.{ReadEntry}
use Rattle.protobuf_parse_run.specs.declared.log.ReadOutcome.{ReadOutcome}
use Rattle.protobuf_parse_run.specs.Walks.{Asked, Event, load, keep, among, walk}
use Rattle.protobuf_parse_run.specs.Run.{StandsAtEvent}
use Rattle.protobuf_parse_run.specs.Run.{Files, IsTheTree, StandsInCycle, Legal}
use Rattle.protobuf_parse_run.specs.Run.{StandsInLong, StandsInLoad, StandsInElab, text_given}
use Rattle.protobuf_parse_run.specs.Run.{is_nothing}
use Rattle.protobuf_parse_run.specs.Loading.{LoadedEntry, IsElabFault, file_at, Grows, Good, Stops}
use Rattle.protobuf_parse_run.specs.Loading.{GoesOn, ReadsTree, IsPlaced, chain_texts}
use Rattle.protobuf_parse_run.specs.Run.{OrMemory}
use Rattle.protobuf_parse_run.proofs.Steps.{Grows-trans, room-is, breaks-now, stops-cycle}
use Rattle.protobuf_parse_run.proofs.Steps.{stops-no_room, stops-tall, halts-load, unread-first}
use Rattle.protobuf_parse_run.proofs.Steps.{tree-read}

pub texts-length : (chain : List (String Global)) → length (chain_texts chain) ≡ length chain
texts-length chain = length-map chain string_bytes

pub texts-push : (chain : List (String Global)) (s : String Global) (p : Text) → string_bytes s ≡ p
    → chain_texts (chain ++ s ∷ []) ≡ chain_texts chain ++ p ∷ []
texts-push chain s p h = map-append string_bytes chain (s ∷ [])
    ∙ ap (λ z. chain_texts chain ++ z ∷ []) h

-- what a look at the chain told
pub chain-told : (p q : Text) (chain held : List (String Global)) (r b : Bool) → q ≡ p
    → held ≡ chain → r ≡ among q (chain_texts held) → r ≡ b → among p (chain_texts chain) ≡ b
chain-told p q chain held r b e same is at = rw (← e, ← same) (sym is ∙ at)

-- the elements before one, it, and those after it
pub split-at : {A B : Type 0} (f : A → B) (xs : List A) (n : ℕ) (b : A) → n < length xs
    → b ≡ get_or xs n b → map f xs ≡ map f (take n xs) ++ f b ∷ map f (drop (suc n) xs)
split-at f xs n b lt is =
    let e : xs ≡ take n xs ++ b ∷ drop (suc n) xs = sym (take-append-drop n xs)
    ∙ ap (λ z. take n xs ++ z) (drop-cons xs n b lt ∙ ap (λ z. z ∷ drop (suc n) xs) (sym is)) in
    ap (map f) e ∙ map-append f (take n xs) (b ∷ drop (suc n) xs)

pub next-at : {A B : Type 0} (f : A → B) (xs : List A) (n : ℕ) (b : A) → n < length xs
    → b ≡ get_or xs n b → map f (take (n + 1) xs) ≡ map f (take n xs) ++ f b ∷ []
next-at f xs n b lt is = ap (map f) (take_more xs n b lt)
    ∙ (map-append f (take n xs) (get_or xs n b ∷ [])
    ∙ ap (λ z. map f (take n xs) ++ f z ∷ []) (sym is))

-- the last is taken off again
pub popped : {A : Type 0} (xs ys zs : List A) (x : A) (n : ℕ) → ys ≡ xs ++ x ∷ [] → n ≡ length ys
    → zs ≡ take (n - 1) ys → zs ≡ xs
popped xs ys zs x n pushed is rest =
    let k = ap length pushed ∙ length_push xs x in
    let e : n - 1 ≡ length xs = omega (arith, k, is) in
    rest ∙ (rw (e, pushed) (take_at xs (x ∷ []) (length xs) refl))

pub goes-back : (files : Files) (table : List (Text × Text)) (old new : List ReadEntry)
    → Grows old new → GoesOn files table new → GoesOn files table old
goes-back files table old new g go =
    record {
      bundled = go.bundled;
      reads = Grows-trans old new files.reads g go.reads;
      trees =
          go.trees;
      listed = go.listed;
    }

pub goes-same : (files : Files) (table : List (Text × Text)) (old new : List ReadEntry) → new ≡ old
    → GoesOn files table new → GoesOn files table old
goes-same files table old new e go = subst (λ (z : List ReadEntry). GoesOn files table z) e go

-- L10 with a fault that may be told of the file
pub elab-stands : (origin : Text) (Told : elaborating.Fault → Type 0) (x : elaborating.Fault)
    (f : RunFault) → Told x → OrMemory f (IsElabFault origin x f)
    → OrMemory f (StandsInElab origin Told f)
elab-stands origin Told x f h (inr m) = inr m
elab-stands origin Told x (fault.Elaborate file error) h (inl is) =
    inl (is.0, subst (λ z. Told z) (sym is.1) h)
elab-stands origin Told x _ h (inl is) = absurd is

-- where one is told one stands
pub stands-failing : (origin : Text) (Told : elaborating.Fault → Type 0)
    (faults : List elaborating.Fault) (f : RunFault)
    → ((g : elaborating.Fault) → Told g → not (is_nothing faults) ≡ true)
    → StandsInElab origin Told f → not (is_nothing faults) ≡ true
stands-failing origin Told faults (fault.Elaborate file error) some h =
    some (fault_view error) h.1
stands-failing origin Told faults _ some h = absurd h

module _ (legal : Legal) (files : Files) where
  pub leaves-cycle : (kept : List Event) (loaded : List LoadedEntry) (log : List ReadEntry)
      (chain : List Text) (i : Text) (a : Asked) (room : ℕ) (p q : Text) (f : RunFault) → q ≡ p
      → Good legal files kept loaded log chain → among q chain ≡ true
      → OrMemory f (StandsInCycle q f)
      → Stops legal files (keep kept (walk files.trees i a room chain p)) log f
  leaves-cycle kept loaded log chain i a room p q f e g on s =
      stops-cycle legal files kept loaded log chain i a room p f g
      (subst (λ (z : Text). among z chain ≡ true) e on)
      (subst (λ (z : Text). OrMemory f (StandsInCycle z f)) e s)

  pub leaves-tall : (kept : List Event) (loaded : List LoadedEntry) (log : List ReadEntry)
      (chain : List Text) (i : Text) (a : Asked) (room : ℕ) (p q : Text) (placed : LoadedAs)
      (f : RunFault) → q ≡ p → Good legal files kept loaded log chain
      → IsPlaced q loaded (Some placed) → room < placed.height → OrMemory f (StandsInLong i f)
      → Stops legal files (keep kept (walk files.trees i a room chain p)) log f
  leaves-tall kept loaded log chain i a room p q placed f e g at lt s =
      stops-tall legal files kept loaded log chain i a room p at.0 f g
      (subst (λ (z : Text). file_at z loaded ≡ Some at.0) e at.1) (rw at.2 at lt) s

  pub leaves-full : (kept : List Event) (loaded : List LoadedEntry) (log : List ReadEntry)
      (chain : List Text) (i : Text) (a : Asked) (room : ℕ) (p q : Text) (f : RunFault) → q ≡ p
      → room ≡ 0 → Good legal files kept loaded log chain → among q chain ≡ false
      → OrMemory f (StandsInLong i f)
      → Stops legal files (keep kept (walk files.trees i a room chain p)) log f
  leaves-full kept loaded log chain i a room p q f e none g off s =
      rw none (stops-no_room legal files kept loaded log chain i a p f g
      (subst (λ (z : Text). among z chain ≡ false) e off) s)

  pub leaves-read : (table : List (Text × Text)) (kept : List Event) (loaded : List LoadedEntry)
      (log new : List ReadEntry) (chain : List Text) (i : Text) (a : Asked) (p : Text)
      (f : RunFault) → GoesOn files table new → Good legal files kept loaded log chain
      → among p chain ≡ false → file_at p loaded ≡ None → length chain < 100
      → ReadsTree legal table a p log new (Err f)
      → Stops legal files (keep kept
      (walk files.trees i a (100 - length chain) chain p)) new f
  leaves-read table kept loaded log new chain i a p f go g off none lt (inr (m, same)) =
      rw same (breaks-now legal files kept
      (walk files.trees i a (100 - length chain) chain p) loaded log chain f g m)
  leaves-read table kept loaded log new chain i a p f go g off none lt (inl r) =
      let grown : Grows (log ++ r.0 ∷ []) files.reads =
      subst (λ (z : List ReadEntry). Grows z files.reads) r.1 go.reads in
      let first =
      unread-first legal files kept loaded log chain p r.0 g off none r.2 grown in
      let the = subst
      (λ (z : List (Text × Text)). IsTheTree (text_given z p (Some r.0.outcome)) None)
      (sym go.bundled) r.4 in
      let is = tree-read legal files kept loaded log chain p r.0 None g off none go.trees
      grown r.2
      the in
      let stands = subst
      (λ (z : List (Text × Text)). StandsInLoad a p (Some r.0.outcome)
      (text_given z p (Some r.0.outcome)) f) (sym go.bundled) r.5 in
      let stands_at : StandsAtEvent files (load a p) f =
      subst (λ (o : Option ReadOutcome). StandsInLoad a p o (text_given files.bundled p o) f)
      (sym first) stands in
      rw (r.1, room-is chain p lt)
      (inl (halts-load legal files kept loaded log chain i a
      (100 - length (chain ++ p ∷ [])) p r.0 f g off none r.2 r.3 is stands_at))

  -- the tree that was read
  pub tree-known : (table : List (Text × Text)) (kept : List Event) (loaded : List LoadedEntry)
      (log new later : List ReadEntry) (chain : List Text) (a : Asked) (p : Text) (tree : FileTree)
      → GoesOn files table later → Grows new later → Good legal files kept loaded log chain
      → among p chain ≡ false → file_at p loaded ≡ None
      → ReadsTree legal table a p log new (Ok tree) → files.trees p ≡ Some (file_syntax tree)
  tree-known table kept loaded log new later chain a p tree go since g off none r =
      let grown : Grows (log ++ r.0 ∷ []) files.reads =
      subst (λ (z : List ReadEntry). Grows z files.reads) r.1
      (Grows-trans new later files.reads since go.reads) in
      let the = subst
      (λ (z : List (Text × Text)). IsTheTree (text_given z p (Some r.0.outcome))
      (Some (file_syntax tree))) (sym go.bundled) r.4 in
      tree-read legal files kept loaded log chain p r.0
      (Some (file_syntax tree)) g off none go.trees grown r.2 the
