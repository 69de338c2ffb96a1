-- What the calls of a load's loop leave, as its clauses say it.
use Rattle.std.proofs.Common.{◌≡◌, List, [], ◌∷◌, ◌++◌, ℕ, suc, Result, Ok, Err, refl, subst, ◌∙◌}
use Rattle.std.proofs.Common.{append_assoc}
use Rattle.std.specs.Prelude.{String}
use Rattle.std.specs.Global.{Global}
use Rattle.std.specs.declared.alloc.AllocError.{AllocError}
use Rattle.protobuf_parse_model.specs.Descriptors.{Text}
use Rattle.protobuf_parse_run.specs.declared.log.ReadEntry.{ReadEntry}
use Rattle.protobuf_parse_run.specs.Loading.{Grows, IsDecided, chain_texts}
use Rattle.protobuf_parse_run.specs.Run.{Legal, MayRead, MayResolve, rows}
use Rattle.protobuf_parse_run.specs.Walks.{Asked, Trees}
use Rattle.protobuf_parse_load.specs.declared.loader.LoadFrame.{LoadFrame}
use Rattle.protobuf_parse_load.specs.declared.loader.Loader.{Loader}
use Rattle.protobuf_parse_load.specs.declared.loader.Met.{Met}
use Rattle.protobuf_parse_load.specs.declared.request.Sources.{Sources}
use Rattle.protobuf_parse_load.specs.Frames.{ClosesFile, GoesOn, Loads, Meets, Remembers}
use Rattle.protobuf_parse_load.specs.Frames.{RemembersReads, StandsAt, chain_in, frame_path, raised}
use Rattle.protobuf_parse_load.specs.Loads.{IsCutOff, ReadFiles, steps_view}
use Rattle.protobuf_parse_load.specs.Requests.{legal_by}
use Rattle.protobuf_parse_load.specs.Steps.{AskedBy, At, closed}
use Rattle.protobuf_parse_load.proofs.Standing.{remembers-closes, step-added}

pub grows-trans : (a b c : List ReadEntry) → Grows a b → Grows b c → Grows a c
grows-trans a b c x y = (x.0 ++ y.0, y.1 ∙ (rw x.1 (append_assoc a x.0 y.0)))

pub goes-back : (files : ReadFiles) (bundled : List (Text × Text)) (old new : List ReadEntry)
    → Grows old new → GoesOn files bundled new → GoesOn files bundled old
goes-back files bundled old new grows go = record {
  bundled_are = go.bundled_are;
  reads = grows-trans old new files.reads grows go.reads;
  trees = go.trees;
}

pub none-texts : (chain : List (String Global)) → chain_texts chain ≡ [] → chain ≡ []
none-texts [] h = refl
none-texts (x ∷ chain) h = cc

-- memory ran out
pub loads-broken : {R I : Type 0} (may_answer : R → MayResolve) (may_read : I → MayRead)
    (sources : Sources R I) (walk : Trees → At → At) (old new : Loader)
    (r : Result (Unit {0}) AllocError) (e : AllocError) → r ≡ Err e
    → Grows old.reads.items new.reads.items → IsDecided (rows sources.bundled.now) new.reads.items
    → ((files : ReadFiles) (a : At) → GoesOn files (rows sources.bundled.now) new.reads.items
    → StandsAt (legal_by may_answer may_read sources) files a old → (k : ℕ)
    → IsCutOff (legal_by may_answer may_read sources) (walk files.trees (raised k a))
    new.reads.items) → Loads may_answer may_read sources walk old new r
loads-broken may_answer may_read sources walk old new r e is grows decided cut =
    rw is (record {
      grows = grows;
      decided = decided;
      chain = tt;
      remembers = tt;
      goes = cut;
    })

-- from the empty chain
pub meets-first : (legal : Legal) (files : ReadFiles) (input name : Text) (asked : Asked)
    (chain : List Text) (by : AskedBy) (p : Text) (a : At) (l : Loader) (r : Result Met AllocError)
    → input ≡ name → chain ≡ [] → Meets legal files input asked chain by p a l r
    → Meets legal files name asked [] by p a l r
meets-first legal files input name asked chain by p a l r named none m =
    subst (λ (z : Text). Meets legal files z asked [] by p a l r) named
    (subst (λ (z : List Text). Meets legal files input asked z by p a l r) none m)

pub meets-named : (legal : Legal) (files : ReadFiles) (input name : Text) (asked : Asked)
    (chain : List Text) (by : AskedBy) (p : Text) (a : At) (l : Loader) (r : Result Met AllocError)
    → input ≡ name → Meets legal files input asked chain by p a l r
    → Meets legal files name asked chain by p a l r
meets-named legal files input name asked chain by p a l r named m =
    subst (λ (z : Text). Meets legal files z asked chain by p a l r) named m

-- the last file of the chain is closed
pub close-remembers : (top : LoadFrame) (l m : Loader) (h : ℕ) (chain : List Text)
    → ClosesFile top l m (Ok h) → chain_in l ≡ chain ++ frame_path top ∷ [] → RemembersReads l
    → RemembersReads m
close-remembers top l m h chain closing is has =
    let had : Remembers (chain ++ frame_path top ∷ []) (steps_view l.steps.list) l.reads.items =
    subst (λ (z : List Text). Remembers z (steps_view l.steps.list) l.reads.items) is has in
    rw (
      closing.chain chain is,
      closing.reads,
      step-added l.steps.list m.steps.list
          (steps_view l.steps.list) (closed (frame_path top) (suc top.height)) refl closing.step,
    )
    (remembers-closes chain (steps_view l.steps.list) (frame_path top) (suc top.height)
    l.reads.items had)
