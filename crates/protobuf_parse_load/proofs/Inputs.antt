-- Loads of several inputs, one after another.
use Rattle.std.proofs.Common.{◌≡◌, ℕ, suc, ◌+◌, ◌<◌, ◌≤◌, List, [], ◌∷◌, Result, Ok, Err, refl, sym}
use Rattle.std.proofs.Common.{◌∙◌, ap, map, length, drop, get_or, arith, append-nil}
use Rattle.std.proofs.Math.Seq.{drop-cons}
use Rattle.std.proofs.lemmas.List.{drop_all}
use Rattle.std.specs.declared.alloc.AllocError.{AllocError}
use Rattle.protobuf_parse_model.specs.Descriptors.{Text}
use Rattle.protobuf_parse_run.specs.declared.log.ReadEntry.{ReadEntry}
use Rattle.protobuf_parse_run.specs.declared.log.RunInput.{RunInput}
use Rattle.protobuf_parse_run.specs.Run.{HasTrees, Legal, MayRead, MayResolve, input_view, rows}
use Rattle.protobuf_parse_run.specs.Walks.{Trees}
use Rattle.protobuf_parse_load.specs.declared.loader.Loader.{Loader}
use Rattle.protobuf_parse_load.specs.declared.request.Sources.{Sources}
use Rattle.protobuf_parse_load.specs.declared.step.LoadStep.{LoadStep}
use Rattle.protobuf_parse_load.specs.Frames.{Goes, GoesOn, Loads, StandsAt, raised}
use Rattle.protobuf_parse_load.specs.Loads.{IsCutOff, IsLoadSoFar, ReadFiles}
use Rattle.protobuf_parse_load.specs.Requests.{legal_by}
use Rattle.protobuf_parse_load.specs.Steps.{At, loads, meets_input, nothing}
use Rattle.protobuf_parse_load.proofs.Looping.{goes-back, grows-trans}
use Rattle.protobuf_parse_load.proofs.Machine.{Extends, extends-loads}
use Rattle.protobuf_parse_load.proofs.Meeting.{cut-later}
use Rattle.protobuf_parse_load.proofs.Standing.{stands-raised}

-- one walk, and then another
pub goes-then : {X E : Type 0} (legal : Legal) (files : ReadFiles) (first later : At → At) (a b :
    At)
    (new : Loader) (r : Result X E)
    → ((k : ℕ) → (h : ℕ) × (first (raised k a) ≡ raised h b))
    → Goes legal files later b new r → Goes legal files (λ x. later (first x)) a new r
goes-then legal files first later a b new (Ok x) before g = (
  g.0,
  g.1,
  λ k. ((g.2 (before k).0).0, ap later (before k).1 ∙ (g.2 (before k).0).1),
)
goes-then legal files first later a b new (Err e) before g =
    λ k. rw (before k).1 (g (before k).0)

module _ {R I : Type 0} (may_answer : R → MayResolve) (may_read : I → MayRead)
    (sources : Sources R I) where
  -- both come to their ends, or the second doesn't
  pub loads-then : (first later : Trees → At → At) (old mid new : Loader)
      (r : Result (Unit {0}) AllocError)
      → Loads may_answer may_read sources first old mid (Ok tt)
      → Loads may_answer may_read sources later mid new r
      → Loads may_answer may_read sources (λ trees x. later trees (first trees x)) old new r
  loads-then first later old mid new r x y = record {
    grows = grows-trans old.reads.items mid.reads.items new.reads.items x.grows y.grows;
    decided = y.decided;
    chain = y.chain;
    remembers = y.remembers;
    goes = λ files a go stands.
        let legal = legal_by may_answer may_read sources in
        let g = x.goes files a (goes-back files (rows sources.bundled.now) mid.reads.items
        new.reads.items y.grows go) stands in
        goes-then legal files (first files.trees) (later files.trees) a g.0 new r g.2
        (y.goes files g.0 go g.1);
  }

  -- the first doesn't
  pub loads-first : (first later : Trees → At → At) (old new : Loader)
      (r q : Result (Unit {0}) AllocError) (e x : AllocError) → r ≡ Err e → q ≡ Err x
      → ((trees : Trees) (a : At) → Extends a.reads (later trees a))
      → Loads may_answer may_read sources first old new q
      → Loads may_answer may_read sources (λ trees x. later trees (first trees x)) old new r
  loads-first first later old new r q e x is was more y =
      let z : Loads may_answer may_read sources first old new (Err x) = (rw was at y) in
      rw is (record {
        grows = z.grows;
        decided = z.decided;
        chain = tt;
        remembers = tt;
        goes = λ files a go stands k.
            cut-later (legal_by may_answer may_read sources) (first files.trees (raised k a))
            (later files.trees (first files.trees (raised k a))) new.reads.items
            (z.goes files a go stands k) (more files.trees (first files.trees (raised k a)));
      })

-- ** the inputs that are left

pub inputs-next : (trees : Trees) (xs : List RunInput) (n : ℕ) (x : RunInput) (b c : At)
    → n < length xs → x ≡ get_or xs n x → meets_input trees n (input_view x) b ≡ c
    → loads trees n (map input_view (drop n xs)) b
    ≡ loads trees (n + 1) (map input_view (drop (n + 1) xs)) c
inputs-next trees xs n x b c lt is met =
    let e : suc n ≡ n + 1 = omega arith in
    let next : drop n xs ≡ x ∷ drop (suc n) xs =
    drop-cons xs n x lt ∙ ap (λ z. z ∷ drop (suc n) xs) (sym is) in
    ap (λ z. loads trees n (map input_view z) b) next
    ∙ ap (loads trees (suc n) (map input_view (drop (suc n) xs))) met
    ∙ ap (λ z. loads trees z (map input_view (drop z xs)) c) e

pub inputs-done : (trees : Trees) (xs : List RunInput) (n : ℕ) (b : At) → length xs ≤ n
    → loads trees n (map input_view (drop n xs)) b ≡ b
inputs-done trees xs n b le = ap (λ z. loads trees n (map input_view z) b) (drop_all n xs le)

-- memory ran out at one of them
pub inputs-broken : (legal : Legal) (trees : Trees) (xs : List RunInput) (n : ℕ) (x : RunInput)
    (a b : At) (log : List ReadEntry) → n < length xs → x ≡ get_or xs n x
    → a ≡ loads trees n (map input_view (drop n xs)) b
    → IsCutOff legal (meets_input trees n (input_view x) b) log → IsCutOff legal a log
inputs-broken legal trees xs n x a b log lt is whole cut =
    let c : At = meets_input trees n (input_view x) b in
    let d : At = loads trees (n + 1) (map input_view (drop (n + 1) xs)) c in
    let e : a ≡ d = whole ∙ inputs-next trees xs n x b c lt is refl in
    rw e (cut-later legal c d log cut
    (extends-loads trees (n + 1) (map input_view (drop (n + 1) xs)) c))

-- ** a whole load

-- the files of a load with this log
abbrev pub load-files : List (Text × Text) → List ReadEntry → Trees → ReadFiles
load-files table log trees = record { bundled = table; reads = log; trees = trees }

pub goes-on : (table : List (Text × Text)) (log : List ReadEntry) (trees : Trees)
    → HasTrees table log trees → GoesOn (load-files table log trees) table log
goes-on table log trees h =
    record { bundled_are = refl; reads = ([], sym (append-nil log)); trees = h }

pub stands-nothing : (legal : Legal) (files : ReadFiles) (l : Loader) → l.steps.list ≡ []
    → l.reads.items ≡ [] → l.files.items ≡ [] → l.unread.items ≡ []
    → StandsAt legal files nothing l
stands-nothing legal files l steps reads loaded unread =
    rw (steps, reads, loaded, unread)
    (record { steps_are = refl; answers = tt; loaded_are = tt; unread_are = tt })

pub load-ends : (legal : Legal) (files : ReadFiles) (l : Loader) (a b : At) (h : ℕ)
    (steps : List LoadStep) → StandsAt legal files b l → a ≡ raised h b → steps ≡ l.steps.list
    → IsLoadSoFar legal files a l.reads.items steps l.files.items l.unread.items
load-ends legal files l a b h steps stands is same =
    rw (is, same)
    (stands-raised legal files b l.reads.items l.steps.list l.files.items l.unread.items h stands)
