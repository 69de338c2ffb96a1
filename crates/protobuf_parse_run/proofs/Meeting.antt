-- What meeting a file leaves.
use Rattle.std.proofs.Common.{◌≡◌, ◌-◌, ◌<◌, ◌≤◌, false, List, [], ◌∷◌, ◌++◌, Some, None, Result}
use Rattle.std.proofs.Common.{Ok, refl, sym, ◌∙◌, ap, subst, append-nil, length}
use Rattle.protobuf_parse_syntax.specs.Trees.{file_syntax}
use Rattle.protobuf_parse_syntax.specs.declared.tree.FileTree.{FileTree}
use Rattle.protobuf_parse_model.specs.Descriptors.{Text}
use Rattle.protobuf_parse_run.specs.declared.fault.RunFault.{RunFault}
use Rattle.protobuf_parse_run.specs.declared.fault.RunFault.TheVariants as fault
use Rattle.protobuf_parse_run.specs.declared.frame.LoadFrame.{LoadFrame}
use Rattle.protobuf_parse_run.specs.declared.loader.Met.{Met}
use Rattle.protobuf_parse_run.specs.declared.loader.LoadedAs.{LoadedAs}
use Rattle.protobuf_parse_run.specs.declared.log.ReadEntry.{ReadEntry}
use Rattle.protobuf_parse_run.specs.Walks.{Asked, Event, load, keep, among, import_paths, walk}
use Rattle.protobuf_parse_run.specs.Run.{Files, Legal}
use Rattle.protobuf_parse_run.specs.Loading.{LoadedEntry, GoesOn, Good, Grows, IsPlaced, ReadsTree}
use Rattle.protobuf_parse_run.specs.Loading.{Stops, file_at}
use Rattle.protobuf_parse_run.specs.Frames.{IsNew, IsSame, Meets, StandsMet, done_in, owed}
use Rattle.protobuf_parse_run.specs.Frames.{frame_path}
use Rattle.protobuf_parse_run.proofs.Keeping.{has-last, keep-fresh}
use Rattle.protobuf_parse_run.proofs.Walking.{settled-nil}
use Rattle.protobuf_parse_run.proofs.Steps.{breaks-now, fresh-load, get-seam, good-load, has-asked}
use Rattle.protobuf_parse_run.proofs.Steps.{loaded-again, unread-first}
use Rattle.protobuf_parse_run.proofs.Leaving.{tree-known}
use Rattle.protobuf_parse_run.proofs.Stepping.{walk-read}

module _ (legal : Legal) (files : Files) where
  -- it is loaded already
  pub met-known : (kept : List Event) (loaded : List LoadedEntry) (log : List ReadEntry)
      (chain : List Text) (i : Text) (a : Asked) (p q : Text) (placed : LoadedAs) → q ≡ p
      → Good legal files kept loaded log chain → IsPlaced q loaded (Some placed)
      → placed.height ≤ 100 - length chain
      → Good legal files kept loaded log chain × IsSame files kept i a chain p placed
  met-known kept loaded log chain i a p q placed e g at le =
      let there = subst (λ (z : Text). file_at z loaded ≡ Some at.0) e at.1 in
      let low : at.0.height ≤ 100 - length chain = (rw at.2 at le) in (
        g,
        record {
          again = loaded-again legal files kept loaded log chain i a
              (100 - length chain) p at.0 g there low;
          settled = rw at.2 (g.settled p at.0 there);
        },
      )

  module _ (table : List (Text × Text)) (kept : List Event) (loaded : List LoadedEntry)
      (log new : List ReadEntry) (chain : List Text) (a : Asked) (p : Text) (tree : FileTree)
      (go : GoesOn files table new) (g : Good legal files kept loaded log chain)
      (off : among p chain ≡ false) (none : file_at p loaded ≡ None)
      (r : ReadsTree legal table a p log new (Ok tree)) where
    tree-is : files.trees p ≡ Some (file_syntax tree)
    tree-is = tree-known legal files table kept loaded log new new chain a p tree go
        ([], sym (append-nil new)) g off none r

    read-good : Good legal files (kept ++ load a p ∷ []) loaded new (chain ++ p ∷ [])
    read-good =
        rw r.1 (good-load legal files kept loaded log chain a p r.0
        (file_syntax tree) g off none r.2 r.3 tree-is)

    -- it was read
    pub met-new : (f : LoadFrame) → frame_path f ≡ p → f.tree ≡ tree → f.read ≡ length log
        → f.next ≡ 0
        → f.height ≡ 0 → IsNew legal files kept a chain p loaded new f
    met-new f path_is tree_is read_is next height =
        let now : List Event = kept ++ load a p ∷ [] in
        let nothing : done_in f ≡ [] = rw next refl in
        let grown : Grows (log ++ r.0 ∷ []) files.reads =
        subst (λ (z : List ReadEntry). Grows z files.reads) r.1 go.reads in
        record {
          fresh = fresh-load legal files kept loaded log chain a p g off none;
          good = read-good;
          held = record {
            load = rw path_is (sym (has-asked a p now) ∙ has-last (load a p) kept);
            is = rw (path_is, tree_is) tree-is;
            settled = rw (height, nothing) (settled-nil now);
            entry = r.0;
            found = rw (read_is, r.1) (get-seam log [] r.0);
            named = r.2 ∙ sym path_is;
            first = rw path_is
                (unread-first legal files kept loaded log chain p r.0 g off none r.2 grown);
          };
        }

    -- memory ran out when it was read
    pub met-breaks : (i : Text) (f : RunFault) → length chain < 100 → f ≡ fault.Memory
        → Stops legal files (keep kept
        (walk files.trees i a (100 - length chain) chain p)) new f
    met-breaks i f lt m =
        let rest = owed files.trees i chain p (import_paths (file_syntax tree)) in
        let e : keep kept (walk files.trees i a (100 - length chain) chain p)
        ≡ keep (kept ++ load a p ∷ []) rest =
        ap (keep kept) (walk-read files.trees i a chain p (file_syntax tree) lt off tree-is)
        ∙ keep-fresh kept rest (load a p)
        (fresh-load legal files kept loaded log chain a p g off none) in
        rw e (breaks-now legal files (kept ++ load a p ∷ []) rest loaded new
        (chain ++ p ∷ []) f read-good m)

-- ** the input is met on the empty chain

pub first-meets : (legal : Legal) (files : Files) (kept : List Event) (i : Text)
    (a : Asked)
    (chain : List Text) (loaded : List LoadedEntry) (log new : List ReadEntry)
    (r : Result Met RunFault)
    → chain ≡ [] → Good legal files kept loaded log []
    → (Good legal files kept loaded log chain
    → Meets legal files kept i a chain i loaded new r)
    → Meets legal files kept i a [] i loaded new r
first-meets legal files kept i a chain loaded log new r none g gives =
    subst (λ (z : List Text). Good legal files kept loaded log z
    → Meets legal files kept i a z i loaded new r) none gives g

pub first-stands : (chain : List Text) (p : Text) (loaded : List LoadedEntry) (log : List ReadEntry)
    (after : List Text) (new : List ReadEntry) (r : Result Met RunFault) → chain ≡ []
    → StandsMet chain p loaded log after new r → StandsMet [] p loaded log after new r
first-stands chain p loaded log after new r none s =
    subst (λ (z : List Text). StandsMet z p loaded log after new r) none s
