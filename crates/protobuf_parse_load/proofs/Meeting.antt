-- What meeting a path leaves, by cases.
use Rattle.std.proofs.Common.{◌≡◌, inl, inr, ℕ, suc, ◌+◌, ◌-◌, ◌≤◌, true, false}
use Rattle.std.proofs.Common.{List, [], ◌∷◌, ◌++◌, Option, Some, None, Result, Ok, Err, refl, sym}
use Rattle.std.proofs.Common.{◌∙◌, ap, subst, length, max, arith, append_assoc}
use Rattle.std.proofs.Common.{append-nil}
use Rattle.std.specs.Prelude.{IfOk, OnOk, is_some, nat_le}
use Rattle.std.specs.Global.{Vec}
use Rattle.std.specs.declared.alloc.AllocError.{AllocError}
use Rattle.std.proofs.lemmas.Bool.Decides.{nat_tests}
use Rattle.std.proofs.lemmas.List.{length_push}
use Rattle.protobuf_parse_base.specs.PathViews.{path_buf_text}
use Rattle.protobuf_parse_syntax.specs.Dependencies.{imports}
use Rattle.protobuf_parse_syntax.specs.Trees.{FileSyntax, ImportSyntax, file_syntax}
use Rattle.protobuf_parse_syntax.specs.declared.tree.FileTree.{FileTree}
use Rattle.protobuf_parse_model.specs.Descriptors.{Text}
use Rattle.protobuf_parse_run.specs.declared.fault.RunFault.{RunFault}
use Rattle.protobuf_parse_run.specs.declared.log.ReadEntry.{ReadEntry}
use Rattle.protobuf_parse_run.specs.declared.log.ReadOutcome.{ReadOutcome}
use Rattle.protobuf_parse_run.specs.Loading.{Grows, IsDecided, ReadsTree, chain_texts}
use Rattle.protobuf_parse_run.specs.Loading.{read_paths}
use Rattle.protobuf_parse_run.specs.Run.{IsTheTree, Legal, MayRead, MayResolve, StandsInLoad}
use Rattle.protobuf_parse_run.specs.Run.{first_read, rows, text_given, text_read}
use Rattle.protobuf_parse_run.specs.Walks.{Trees, among, the_resolver}
use Rattle.protobuf_parse_run.proofs.Deciding.{decided-file, decided-same}
use Rattle.protobuf_parse_load.specs.declared.known.Known.TheVariants.{Loaded}
use Rattle.protobuf_parse_load.specs.declared.loader.Loader.{Loader}
use Rattle.protobuf_parse_load.specs.declared.loader.Met.{Met}
use Rattle.protobuf_parse_load.specs.declared.loader.Met.TheVariants as met
use Rattle.protobuf_parse_load.specs.declared.request.Request.{Request}
use Rattle.protobuf_parse_load.specs.declared.request.Sources.{Sources}
use Rattle.protobuf_parse_load.specs.Frames.{AddsStep, HasRead}
use Rattle.protobuf_parse_load.specs.Frames.{MeetsFile, MissesFile, OpensFile, ReadsNew}
use Rattle.protobuf_parse_load.specs.Frames.{RemembersReads, StandsAt, chain_in}
use Rattle.protobuf_parse_load.specs.Frames.{meets_at, raised}
use Rattle.protobuf_parse_load.specs.Loads.{IsCutOff, IsUnreadFile, ReadFiles}
use Rattle.protobuf_parse_load.specs.Loads.{steps_view}
use Rattle.protobuf_parse_load.specs.Requests.{asked_in, asker_in, legal_by, path_in}
use Rattle.protobuf_parse_load.specs.Steps.{At, Step, Why, back, by_import, closes, is_too_long}
use Rattle.protobuf_parse_load.specs.Steps.{is_unread, known, known_by, meet, meets_each, misses}
use Rattle.protobuf_parse_load.specs.Steps.{opened}
use Rattle.protobuf_parse_load.specs.Steps.{opens, tells, told}
use Rattle.protobuf_parse_load.proofs.Machine.{Extends, extends-at, extends-meet, meet-loaded}
use Rattle.protobuf_parse_load.proofs.Machine.{meet-full, meet-missed, meet-opened}
use Rattle.protobuf_parse_load.proofs.Standing.{answers-push, first-is, first-text}
use Rattle.protobuf_parse_load.proofs.Standing.{remembers-misses}
use Rattle.protobuf_parse_load.proofs.Standing.{remembers-opens, remembers-tells, stands-misses}
use Rattle.protobuf_parse_load.proofs.Standing.{stands-opens, stands-tells, step-added, tree-is}
use Rattle.protobuf_parse_load.proofs.Standing.{unread-new}

pub max-zero : (k : ℕ) → max 0 k ≡ k
max-zero k = omega arith

-- memory ran out with the reads that there were, or with one more
pub cut-now : (legal : Legal) (files : ReadFiles) (a b : At) (l : Loader) (log : List ReadEntry)
    → StandsAt legal files a l → log ≡ l.reads.items → Extends a.reads b → IsCutOff legal b log
cut-now legal files a b l log stands same more = record {
  done = a.reads;
  later = more.0;
  beginning = more.1;
  answers = rw same stands.answers;
}

pub cut-later : (legal : Legal) (a b : At) (log : List ReadEntry) → IsCutOff legal a log
    → Extends a.reads b → IsCutOff legal b log
cut-later legal a b log cut more = record {
  done = cut.done;
  later = cut.later ++ more.0;
  beginning = more.1 ∙ (rw cut.beginning (append_assoc cut.done cut.later more.0));
  answers = cut.answers;
}

pub grows-same : (old new : List ReadEntry) → new ≡ old → Grows old new
grows-same old new same = ([], same ∙ sym (append-nil old))

-- a read by its number, and the reads before it
pub opens-moved : (request : Request) (n m : ℕ) (tree : FileTree) (old new : Loader)
    (reads : Vec ReadEntry) (r : Result Met AllocError) → n ≡ m
    → OpensFile request n tree (record old { reads = reads }) new r
    → OpensFile request m tree (record old { reads = new.reads }) new r
opens-moved request n m tree old new reads r e o =
    subst (λ (z : ℕ). OpensFile request z tree (record old { reads = new.reads }) new r) e
    (record {
      reads = refl;
      files = o.files;
      unread = o.unread;
      step = o.step;
      chain = o.chain;
      file = o.file;
    })

pub misses-moved : (request : Request) (n m : ℕ) (f : RunFault) (old new : Loader)
    (reads : Vec ReadEntry) (r : Result Met AllocError) → n ≡ m
    → MissesFile request n f (record old { reads = reads }) new r
    → MissesFile request m f (record old { reads = new.reads }) new r
misses-moved request n m f old new reads r e o =
    subst (λ (z : ℕ). MissesFile request z f (record old { reads = new.reads }) new r) e
    (record {
      reads = refl;
      files = o.files;
      chain = o.chain;
      step = o.step;
      joined = o.joined;
      file = o.file;
    })

height-zero : (b : At) (k : ℕ) → raised k b ≡ back 0 (raised k b)
height-zero b k = rw (max-zero k) refl

module _ {R I : Type 0} (may_answer : R → MayResolve) (may_read : I → MayRead)
    (sources : Sources R I) (input : Text) (request : Request) where
  -- a step tells that the request isn't followed, and nothing is read
  pub met-told : (old new : Loader) (result : Result Met AllocError) (why : Why)
      → new.reads ≡ old.reads → new.files ≡ old.files → new.unread ≡ old.unread
      → new.chain ≡ old.chain → IfOk result (λ m. m ≡ met.Joined 0)
      → OnOk result (AddsStep old.steps.list new.steps.list
      (told (asker_in request) (path_in request) why))
      → ((trees : Trees) (a : At) → a.steps ≡ steps_view old.steps.list
      → meet trees input (asked_in request) (100 - length (chain_in old)) (chain_in old)
      (asker_in request) (path_in request) a
      ≡ tells (told (asker_in request) (path_in request) why) a)
      → length (chain_in old) ≤ 100 → IsDecided (rows sources.bundled.now) old.reads.items
      → RemembersReads old
      → ((q : Text) → is_some (known_by q (told (asker_in request) (path_in request) why) None) ≡
      true
      → is_some (known q (steps_view old.steps.list)) ≡ true)
      → MeetsFile may_answer may_read sources input request old new result
  met-told old new (Err e) why reads files unread chain joined adds walk short decided has again =
      record {
        grows = grows-same old.reads.items new.reads.items (ap (λ v. v.items) reads);
        decided = decided-same (rows sources.bundled.now) old.reads.items new.reads.items
            (ap (λ v. v.items) reads) decided;
        chain = tt;
        goes = λ all a go stands k.
            cut-now (legal_by may_answer may_read sources) all a
            (meet all.trees input (asked_in request) (100 - length (chain_in old)) (chain_in old)
            (asker_in request) (path_in request) (raised k a)) old new.reads.items stands
            (ap (λ v. v.items) reads)
            (extends-meet all.trees input (asked_in request) (100 - length (chain_in old))
            (chain_in old) (asker_in request) (path_in request) (raised k a));
      }
  met-told old new (Ok m) why reads files unread chain joined adds walk short decided has again =
      let legal = legal_by may_answer may_read sources in
      let s : Step = told (asker_in request) (path_in request) why in
      rw joined (record {
        grows = grows-same old.reads.items new.reads.items (ap (λ v. v.items) reads);
        decided = decided-same (rows sources.bundled.now) old.reads.items new.reads.items
            (ap (λ v. v.items) reads) decided;
        chain = (
          ap (λ v. chain_texts v.items) chain,
          omega (arith, short),
          rw (
            chain,
            reads,
            step-added old.steps.list new.steps.list
                (steps_view old.steps.list) s refl adds,
          )
              (remembers-tells (chain_in old) (steps_view old.steps.list) s old.reads.items has
              again),
        );
        goes = λ all a go stands. (
          tells s a,
          rw (reads, files, unread)
              (stands-tells legal all a old.reads.items old.steps.list new.steps.list
              old.files.items old.unread.items s refl stands adds),
          λ k. walk all.trees (raised k a) (sym stands.steps_are) ∙ height-zero (tells s a) k,
        );
      })

  -- the file is loaded already
  pub met-loaded : (old : Loader) (h : ℕ) → among (path_in request) (chain_in old) ≡ false
      → known (path_in request) (steps_view old.steps.list) ≡ Some (Loaded h)
      → length (chain_in old) ≤ 100 → h ≤ 100 - length (chain_in old)
      → IsDecided (rows sources.bundled.now) old.reads.items → RemembersReads old
      → MeetsFile may_answer may_read sources input request old old (Ok (met.Joined h))
  met-loaded old h off is short low decided has = record {
    grows = grows-same old.reads.items old.reads.items refl;
    decided = decided;
    chain = (refl, omega (arith, short, low), has);
    goes = λ all a go stands. (
      a,
      stands,
      λ k. meet-loaded all.trees input (asked_in request) (100 - length (chain_in old))
          (chain_in old) (asker_in request) (path_in request) (raised k a) h off
          (ap (known (path_in request)) (sym stands.steps_are) ∙ is)
          (le-test h (100 - length (chain_in old)) low),
    );
  }
    where
      le-test : (a b : ℕ) → a ≤ b → nat_le a b ≡ true
      le-test a b le = grind (arith, nat_tests)

  room-suc : (n : ℕ) → n ≤ 100 → (100 - n ≡ 0 → ⊥) → 100 - n ≡ suc (100 - (n + 1))
  room-suc n le some = grind arith

  -- a path of which nothing is known, by its tree
  walk-missed : (trees : Trees) (chain : List Text) (a : At)
      → among (path_in request) chain ≡ false → known (path_in request) a.steps ≡ None
      → length chain ≤ 100 → (100 - length chain ≡ 0 → ⊥) → trees (path_in request) ≡ None
      → meet trees input (asked_in request) (100 - length chain) chain (asker_in request)
      (path_in request) a
      ≡ misses (asker_in request) (asked_in request) (path_in request) a
  walk-missed trees chain a off none short room tree =
      rw (room-suc (length chain) short room)
      (meet-missed trees input (asked_in request) (100 - (length chain + 1)) chain
      (asker_in request) (path_in request) a off none tree)

  walk-opened : (trees : Trees) (chain : List Text) (a : At) (t : FileSyntax)
      → among (path_in request) chain ≡ false → known (path_in request) a.steps ≡ None
      → length chain ≤ 100 → (100 - length chain ≡ 0 → ⊥) → trees (path_in request) ≡ Some t
      → meet trees input (asked_in request) (100 - length chain) chain (asker_in request)
      (path_in request) a
      ≡ back a.height (meets_at trees input (chain ++ path_in request ∷ []) (path_in request)
      (imports t.statements) (opens (asker_in request) (asked_in request) (path_in request) a))
  walk-opened trees chain a t off none short room tree =
      let p = path_in request in
      let n : ℕ = 100 - (length chain + 1) in
      let below : n ≡ 100 - length (chain ++ p ∷ []) = ap (λ z. 100 - z) (sym (length_push chain p))
      in
      let b : At = opens (asker_in request) (asked_in request) p a in
      ap (λ z. meet trees input (asked_in request) z chain (asker_in request) p a)
      (room-suc (length chain) short room)
      ∙ meet-opened trees input (asked_in request) n chain (asker_in request) p a t off none tree
      ∙ ap (λ (z : ℕ). back a.height (closes p (meets_each
      (λ (i : ImportSyntax). meet trees input the_resolver z (chain ++ p ∷ []) (by_import p i.place)
      i.path) (imports t.statements) b))) below

  -- there is no room for one
  pub walk-full : (trees : Trees) (chain : List Text) (a : At)
      → among (path_in request) chain ≡ false → known (path_in request) a.steps ≡ None
      → 100 - length chain ≡ 0
      → meet trees input (asked_in request) (100 - length chain) chain (asker_in request)
      (path_in request) a
      ≡ tells (told (asker_in request) (path_in request) (is_too_long input)) a
  walk-full trees chain a off none room =
      ap (λ z. meet trees input (asked_in request) z chain (asker_in request) (path_in request) a)
      room
      ∙ meet-full trees input (asked_in request) chain (asker_in request) (path_in request) a off
      none

  module _ (old new : Loader) (off : among (path_in request) (chain_in old) ≡ false)
      (none : known (path_in request) (steps_view old.steps.list) ≡ None)
      (short : length (chain_in old) ≤ 100) (room : 100 - length (chain_in old) ≡ 0 → ⊥)
      (decided : IsDecided (rows sources.bundled.now) old.reads.items)
      (has : RemembersReads old) where
    unknown : (all : ReadFiles) (a : At) → StandsAt (legal_by may_answer may_read sources) all a old
        → (k : ℕ) → known (path_in request) (raised k a).steps ≡ None
    unknown all a stands k = ap (known (path_in request)) (sym stands.steps_are) ∙ none

    unread : among (path_in request) (read_paths old.reads.items) ≡ false
    unread = unread-new (chain_in old) (steps_view old.steps.list) old.reads.items
        (path_in request) has off none

    -- it has no tree
    pub met-missed : (m : Met) (f : RunFault) (e : ReadEntry)
        → new.reads.items ≡ old.reads.items ++ e ∷ [] → path_buf_text e.path ≡ path_in request
        → legal_by may_answer may_read sources (asked_in request) (path_in request) e.outcome
        → IsTheTree (text_given (rows sources.bundled.now) (path_in request) (Some e.outcome)) None
        → StandsInLoad (asked_in request) (path_in request) (Some e.outcome)
        (text_given (rows sources.bundled.now) (path_in request) (Some e.outcome)) f
        → MissesFile request (length old.reads.items) f (record old { reads = new.reads }) new (Ok
        m)
        → MeetsFile may_answer may_read sources input request old new (Ok m)
    met-missed m f e reads named ok tree fault leaves =
        let legal = legal_by may_answer may_read sources in
        let table = rows sources.bundled.now in
        let p = path_in request in
        let file = leaves.file in
        let n = length old.unread.items in
        let s : Step = told (asker_in request) p (is_unread n) in
        rw leaves.joined (record {
          grows = (e ∷ [], reads);
          decided = decided-file legal table (asked_in request) p old.reads.items new.reads.items
              (Err f) (inl (e, reads, named, ok, tree, fault)) decided;
          chain = (
            ap (λ v. chain_texts v.items) leaves.chain,
            omega (arith, short),
            rw (
              leaves.chain,
              step-added old.steps.list new.steps.list (steps_view old.steps.list) s
                  refl leaves.step,
            )
                (remembers-misses (chain_in old) (steps_view old.steps.list) (asker_in request) p n
                old.reads.items new.reads.items e has reads named),
          );
          goes = λ all a go stands.
              let text = first-text all table old.reads.items new.reads.items e p go reads named
              unread in
              let none_there = tree-is all table new.reads.items p e.outcome None go text tree in
              let missed : IsUnreadFile all (record { asked = asked_in request; path = p }) file.0 =
              record {
                path = file.2;
                read = rw file.3 (first-is all table old.reads.items new.reads.items e p go reads
                    named unread);
                treeless = none_there;
                stands = subst (λ (z : RunFault). StandsInLoad (asked_in request) p
                    (first_read p all.reads) (text_read all.bundled all.reads p) z) (sym file.4)
                    (subst (λ (z : List (Text × Text)). StandsInLoad (asked_in request) p
                    (first_read p all.reads) (text_given z p (first_read p all.reads)) f)
                    (sym go.bundled_are)
                    (subst (λ (z : Option ReadOutcome). StandsInLoad (asked_in request) p z
                    (text_given table p z) f) (sym text) fault));
              } in (
                misses (asker_in request) (asked_in request) p a,
                rw leaves.files
                    (stands-misses legal all a old.reads.items new.reads.items old.steps.list
                    new.steps.list old.files.items old.unread.items new.unread.items
                    (asker_in request) (asked_in request) p e file.0 stands reads named ok
                    leaves.step
                    file.1 missed),
                λ k. walk-missed all.trees (chain_in old) (raised k a) off (unknown all a stands k)
                    short room none_there
                    ∙ height-zero (misses (asker_in request) (asked_in request) p a) k,
              );
        })

    -- it has a tree
    pub met-opened : (m : Met) (tree : FileTree) (e : ReadEntry)
        → new.reads.items ≡ old.reads.items ++ e ∷ [] → path_buf_text e.path ≡ path_in request
        → legal_by may_answer may_read sources (asked_in request) (path_in request) e.outcome
        → IsTheTree (text_given (rows sources.bundled.now) (path_in request) (Some e.outcome))
        (Some (file_syntax tree))
        → OpensFile request (length old.reads.items) tree (record old { reads = new.reads }) new
        (Ok m) → MeetsFile may_answer may_read sources input request old new (Ok m)
    met-opened m tree e reads named ok is leaves =
        let legal = legal_by may_answer may_read sources in
        let table = rows sources.bundled.now in
        let p = path_in request in
        let file = leaves.file in
        let s : Step = opened (asker_in request) p in
        rw file.1 (record {
          grows = (e ∷ [], reads);
          decided = decided-file legal table (asked_in request) p old.reads.items new.reads.items
              (Ok tree) (e, reads, named, ok, is) decided;
          chain = (
            leaves.chain,
            omega (arith, short, room),
            rw (
              leaves.chain,
              step-added old.steps.list new.steps.list (steps_view old.steps.list) s
                  refl leaves.step,
            )
                (remembers-opens (chain_in old) (steps_view old.steps.list) (asker_in request) p
                old.reads.items new.reads.items e has reads named),
            file.2,
          );
          goes = λ all a go stands.
              let text = first-text all table old.reads.items new.reads.items e p go reads named
              unread in
              let there = tree-is all table new.reads.items p e.outcome (Some (file_syntax tree)) go
              text is in
              let b : At = opens (asker_in request) (asked_in request) p a in (
                b,
                rw (leaves.files, leaves.unread)
                    (stands-opens legal all a old.reads.items new.reads.items old.steps.list
                    new.steps.list old.files.items old.unread.items (asker_in request)
                    (asked_in request) p e stands reads named ok leaves.step),
                record {
                  path = file.2;
                  read = rw file.3 (first-is all table old.reads.items new.reads.items e p go reads
                      named unread);
                  tree = rw file.4 there;
                },
                λ k. rw file.4
                    (walk-opened all.trees (chain_in old) (raised k a) (file_syntax tree) off
                    (unknown all a stands k) short room there),
              );
        })

    -- memory ran out behind the read
    pub met-broken : (t : Result FileTree RunFault) (x : AllocError)
        → ReadsTree (legal_by may_answer may_read sources) (rows sources.bundled.now)
        (asked_in request) (path_in request) old.reads.items new.reads.items t
        → MeetsFile may_answer may_read sources input request old new (Err x)
    met-broken (Ok tree) x r =
        let legal = legal_by may_answer may_read sources in
        let table = rows sources.bundled.now in
        let p = path_in request in
        record {
          grows = (r.0 ∷ [], r.1);
          decided = decided-file legal table (asked_in request) p old.reads.items new.reads.items
              (Ok tree) r decided;
          chain = tt;
          goes = λ all a go stands k.
              let text = first-text all table old.reads.items new.reads.items r.0 p go r.1 r.2
              unread in
              let there = tree-is all table new.reads.items p r.0.outcome (Some (file_syntax tree))
              go
              text r.4 in
              let b : At = opens (asker_in request) (asked_in request) p (raised k a) in
              let more = extends-at all.trees input (chain_in old ++ p ∷ []) p
              (imports (file_syntax tree).statements) b in
              rw (walk-opened all.trees (chain_in old) (raised k a) (file_syntax tree) off
              (unknown all a stands k) short room there)
              (record {
                done = b.reads;
                later = more.0;
                beginning = more.1;
                answers = rw r.1 (answers-push legal a.reads old.reads.items
                    (record { asked = asked_in request; path = p }) r.0 stands.answers r.2 r.3);
              });
        }
    met-broken (Err f) x (inl r) =
        let legal = legal_by may_answer may_read sources in
        let table = rows sources.bundled.now in
        let p = path_in request in
        record {
          grows = (r.0 ∷ [], r.1);
          decided = decided-file legal table (asked_in request) p old.reads.items new.reads.items
              (Err f) (inl r) decided;
          chain = tt;
          goes = λ all a go stands k.
              let text = first-text all table old.reads.items new.reads.items r.0 p go r.1 r.2
              unread in
              let none_there = tree-is all table new.reads.items p r.0.outcome None go text r.4 in
              let b : At = misses (asker_in request) (asked_in request) p (raised k a) in
              rw (walk-missed all.trees (chain_in old) (raised k a) off (unknown all a stands k)
              short room none_there)
              (record {
                done = b.reads;
                later = [];
                beginning = sym (append-nil b.reads);
                answers = rw r.1 (answers-push legal a.reads old.reads.items
                    (record { asked = asked_in request; path = p }) r.0 stands.answers r.2 r.3);
              });
        }
    met-broken (Err f) x (inr r) =
        let legal = legal_by may_answer may_read sources in
        record {
          grows = grows-same old.reads.items new.reads.items r.1;
          decided = decided-same (rows sources.bundled.now) old.reads.items new.reads.items r.1
              decided;
          chain = tt;
          goes = λ all a go stands k.
              cut-now legal all a
              (meet all.trees input (asked_in request) (100 - length (chain_in old)) (chain_in old)
              (asker_in request) (path_in request) (raised k a)) old new.reads.items stands r.1
              (extends-meet all.trees input (asked_in request) (100 - length (chain_in old))
              (chain_in old) (asker_in request) (path_in request) (raised k a));
        }

    -- it was read
    pub met-new : (result : Result Met AllocError)
        → ReadsNew (legal_by may_answer may_read sources) (rows sources.bundled.now) request old new
        result → MeetsFile may_answer may_read sources input request old new result
    met-new (Err x) r = met-broken r.tree x r.read
    met-new (Ok m) r = by_tree r.tree r.read r.leaves
      where
        by_tree : (t : Result FileTree RunFault)
            → ReadsTree (legal_by may_answer may_read sources) (rows sources.bundled.now)
            (asked_in request) (path_in request) old.reads.items new.reads.items t
            → HasRead request (length old.reads.items) old new t (Ok m)
            → MeetsFile may_answer may_read sources input request old new (Ok m)
        by_tree (Ok tree) r leaves = met-opened m tree r.0 r.1 r.2 r.3 r.4 leaves
        by_tree (Err f) r (inl over) = absurd over
        by_tree (Err f) (inl r) (inr leaves) =
            met-missed m f r.0 r.1 r.2 r.3 r.4 r.5 leaves.1
        by_tree (Err f) (inr r) (inr leaves) = absurd (leaves.0 r.0)
