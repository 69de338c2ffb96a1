-- What the turns of a load's loop do: over plain values.
use Rattle.std.proofs.Common.{◌≡◌, ℕ, suc, ◌+◌, ◌-◌, List, [], ◌∷◌, ◌++◌, Some, Result, Ok, Err}
use Rattle.std.proofs.Common.{refl, sym, ◌∙◌, ap, subst, max, length, arith, drop, slice_get}
use Rattle.std.specs.Prelude.{string_bytes}
use Rattle.std.specs.List.{AllByRecursion}
use Rattle.std.specs.declared.alloc.AllocError.{AllocError}
use Rattle.protobuf_parse_base.specs.PathViews.{path_buf_text}
use Rattle.protobuf_parse_syntax.specs.Trees.{ImportSyntax, import_syntax}
use Rattle.protobuf_parse_syntax.specs.declared.tree.FileStatement.{FileStatement}
use Rattle.protobuf_parse_syntax.specs.declared.tree.FileStatement.TheVariants as file_statement
use Rattle.protobuf_parse_syntax.specs.declared.tree.Import.{Import}
use Rattle.protobuf_parse_model.specs.Descriptors.{Text}
use Rattle.protobuf_parse_run.specs.declared.log.ReadEntry.{ReadEntry}
use Rattle.protobuf_parse_run.specs.Run.{Legal}
use Rattle.protobuf_parse_run.specs.Walks.{Asked, the_resolver}
use Rattle.protobuf_parse_load.specs.declared.loader.LoadFrame.{LoadFrame}
use Rattle.protobuf_parse_load.specs.declared.loader.Loader.{Loader}
use Rattle.protobuf_parse_load.specs.declared.loader.Met.TheVariants as met
use Rattle.protobuf_parse_load.specs.declared.log.LoadedFile.{LoadedFile}
use Rattle.protobuf_parse_load.specs.Frames.{ClosesFile, Goes, IsRunning, Meets, StandsAt}
use Rattle.protobuf_parse_load.specs.Frames.{chain_of, frame_path, imports_in, imports_left}
use Rattle.protobuf_parse_load.specs.Frames.{meets_at, meets_import, raised, unwinds}
use Rattle.protobuf_parse_load.specs.Loads.{IsCutOff, IsLoadedFile, ReadFiles}
use Rattle.protobuf_parse_load.specs.Steps.{AskedBy, At, back, by_import, closes, meet, meets_each}
use Rattle.protobuf_parse_load.proofs.Machine.{Extends, extends-at}
use Rattle.protobuf_parse_load.proofs.Machine.{extends-trans, extends-unwinds}
use Rattle.protobuf_parse_load.proofs.Meeting.{cut-later, cut-now}
use Rattle.protobuf_parse_load.proofs.Stacks.{all-left, chain_of-push, frames-pop, frames-push}
use Rattle.protobuf_parse_load.proofs.Stacks.{left-import, left-other, unwinds-push}
use Rattle.protobuf_parse_load.proofs.Standing.{stands-closes}

max-comm : (a b : ℕ) → max a b ≡ max b a
max-comm a b = omega arith

module _ (legal : Legal) (files : ReadFiles) (walk : At → At) (input : Text) (a : At) where
  -- ** what the load becomes behind the frames

  behind-extends : (stack : List LoadFrame) (b : At) (k : ℕ)
      → walk (raised k a) ≡ back k (unwinds files.trees input [] stack b)
      → Extends b.reads (walk (raised k a))
  behind-extends stack b k is =
      let x = extends-unwinds files.trees input [] stack b in
      (x.0, ap (λ (z : At). z.reads) is ∙ x.1)

  pub running-extends : (stack : List LoadFrame) (top : LoadFrame) (l : Loader)
      (r : IsRunning legal files walk input a stack top l) (k : ℕ)
      → Extends r.now.reads (walk (raised k a))
  running-extends stack top l r k =
      let chain = chain_of [] stack ++ frame_path top ∷ [] in
      let b : At = meets_at files.trees input chain (frame_path top) (imports_left top)
      (raised top.height r.now) in
      extends-trans r.now.reads b (walk (raised k a))
      (extends-at files.trees input chain (frame_path top) (imports_left top)
      (raised top.height r.now)) (behind-extends stack b k (r.whole k))

  -- memory ran out, with the reads that there are
  pub running-cut : (stack : List LoadFrame) (top : LoadFrame) (l : Loader) (log : List ReadEntry)
      → IsRunning legal files walk input a stack top l → log ≡ l.reads.items → (k : ℕ)
      → IsCutOff legal (walk (raised k a)) log
  running-cut stack top l log r same k =
      cut-now legal files r.now (walk (raised k a)) l log r.stands same
      (running-extends stack top l r k)

  -- the file of a frame that has this path, and nothing of it was met
  at-same : (stack : List LoadFrame) (p q : Text) (is js : List ImportSyntax) (b c : At) (k : ℕ)
      → p ≡ q → is ≡ js → b ≡ c
      → back k (unwinds files.trees input [] stack
      (meets_at files.trees input (chain_of [] stack ++ p ∷ []) p is b))
      ≡ back k (unwinds files.trees input [] stack
      (meets_at files.trees input (chain_of [] stack ++ q ∷ []) q js c))
  at-same stack p q is js b c k named left same = rw (named, left, same) refl

  file-moved : (old new : LoadFrame) → new.file ≡ old.file
      → IsLoadedFile files (frame_path old) old.file → IsLoadedFile files (frame_path new) new.file
  file-moved old new is file =
      subst (λ (z : LoadedFile). IsLoadedFile files (string_bytes z.path) z) (sym is) file

  file-first : (f : LoadFrame) (file : LoadedFile) (p : Text) → f.file ≡ file
      → IsLoadedFile files p file → IsLoadedFile files (frame_path f) f.file
  file-first f file p is loaded =
      subst (λ (z : LoadedFile). IsLoadedFile files (string_bytes z.path) z) (sym is)
      (subst (λ (z : Text). IsLoadedFile files z file) (sym loaded.path) loaded)

  -- ** the first file

  pub running-start : (chain : List Text) (asked : Asked) (by : AskedBy) (p : Text) (l : Loader)
      (file : LoadedFile) (f : LoadFrame) → chain ≡ []
      → ((b : At) → walk b ≡ meet files.trees input asked 100 [] by p b)
      → Meets legal files input asked chain by p a l (Ok (met.Opened file)) → f.file ≡ file
      → f.next ≡ 0 → f.height ≡ 0 → IsRunning legal files walk input a [] f l
  running-start chain asked by p l file f none is m file_is start low =
      let named : frame_path f ≡ p = ap (λ (z : LoadedFile). string_bytes z.path) file_is ∙ m.2.path
      in
      let left = all-left f file file_is start in
      record {
        now = m.0;
        stands = m.1;
        file = file-first f file p file_is m.2;
        below = tt;
        whole = λ k. is (raised k a) ∙ (rw none at (m.3 k))
            ∙ at-same [] p (frame_path f) (imports_in file.tree.statements.items) (imports_left f)
            (raised 0 m.0) (raised f.height m.0) k (sym named) (sym left)
            (ap (λ z. raised z m.0) (sym low));
      }

  -- ** a statement that is no import

  pub running-other : (stack : List LoadFrame) (old new : LoadFrame) (x : FileStatement)
      (l : Loader) → IsRunning legal files walk input a stack old l → new.file ≡ old.file
      → new.next ≡ old.next + 1 → new.height ≡ old.height
      → slice_get old.file.tree.statements.items old.next ≡ Some x
      → ((i : Import) → x ≡ file_statement.Import i → ⊥)
      → IsRunning legal files walk input a stack new l
  running-other stack old new x l r file_is next_is height_is at other =
      let left : imports_left new ≡ imports_left old = rw (file_is, next_is)
      (sym (left-other old.file.tree.statements.items old.next x at other)) in
      let named : frame_path new ≡ frame_path old =
      ap (λ (z : LoadedFile). string_bytes z.path) file_is in
      record {
        now = r.now;
        stands = r.stands;
        file = file-moved old new file_is r.file;
        below = r.below;
        whole = λ k. r.whole k
            ∙ at-same stack (frame_path old) (frame_path new) (imports_left old) (imports_left new)
            (raised old.height r.now) (raised new.height r.now) k (sym named) (sym left)
            (ap (λ z. raised z r.now) (sym height_is));
      }

  -- ** an import

  -- the next import is met, and then the later ones
  at-import : (chain : List Text) (path : Text) (i : Import) (later : List ImportSyntax) (b c : At)
      → meet files.trees input the_resolver (100 - length chain) chain (by_import path i.place)
      (path_buf_text i.path) b ≡ c
      → meets_at files.trees input chain path (import_syntax i ∷ later) b
      ≡ meets_at files.trees input chain path later c
  at-import chain path i later b c is =
      ap (λ z. closes path (meets_each (meets_import files.trees input chain path) later z)) is

  pub running-joined : (stack : List LoadFrame) (old new : LoadFrame) (i : Import) (l m : Loader)
      (chain : List Text) (by : AskedBy) (h : ℕ)
      (r : IsRunning legal files walk input a stack old l)
      → chain ≡ chain_of [] stack ++ frame_path old ∷ []
      → by ≡ by_import (frame_path old) i.place
      → slice_get old.file.tree.statements.items old.next ≡ Some (file_statement.Import i)
      → Meets legal files input the_resolver chain by (path_buf_text i.path) r.now m
      (Ok (met.Joined h)) → new.file ≡ old.file → new.next ≡ old.next + 1
      → new.height ≡ max old.height h → IsRunning legal files walk input a stack new m
  running-joined stack old new i l m chain by h r chain_is by_is at meets file_is next_is
      height_is =
      let named : frame_path new ≡ frame_path old =
      ap (λ (z : LoadedFile). string_bytes z.path) file_is in
      let later : imports_left new ≡ imports_in (drop (old.next + 1)
      old.file.tree.statements.items) = rw (file_is, next_is) refl in
      let next : imports_left old ≡ import_syntax i ∷ imports_left new =
      left-import old.file.tree.statements.items old.next i at
      ∙ ap (λ z. import_syntax i ∷ z) (sym later) in
      let c = chain_of [] stack ++ frame_path old ∷ [] in
      let height : back h (raised old.height meets.0) ≡ raised new.height meets.0 =
      ap (λ z. raised z meets.0) (max-comm h old.height ∙ sym height_is) in
      let step = at-import c (frame_path old) i (imports_left new) (raised old.height r.now)
      (raised new.height meets.0)
      ((rw (chain_is, by_is) at (meets.2 old.height)) ∙ height) in
      record {
        now = meets.0;
        stands = meets.1;
        file = file-moved old new file_is r.file;
        below = r.below;
        whole = λ k. r.whole k
            ∙ ap (λ z. back k (unwinds files.trees input [] stack
            (meets_at files.trees input c (frame_path old) z (raised old.height r.now)))) next
            ∙ ap (λ z. back k (unwinds files.trees input [] stack z)) step
            ∙ at-same stack (frame_path old) (frame_path new) (imports_left new) (imports_left new)
            (raised new.height meets.0) (raised new.height meets.0) k (sym named) refl refl;
      }

  inner-same : (c d : List Text) (p q : Text) (is js : List ImportSyntax) (b e : At) → c ≡ d → p ≡ q
      → is ≡ js → b ≡ e → meets_at files.trees input (c ++ p ∷ []) p is b
      ≡ meets_at files.trees input (d ++ q ∷ []) q js e
  inner-same c d p q is js b e chain named left same = rw (chain, named, left, same) refl

  -- its file is opened, above the frame whose import it is
  pub running-opened : (stack : List LoadFrame) (old parent frame : LoadFrame) (i : Import)
      (l m : Loader) (chain : List Text) (by : AskedBy) (file : LoadedFile)
      (r : IsRunning legal files walk input a stack old l)
      → chain ≡ chain_of [] stack ++ frame_path old ∷ []
      → by ≡ by_import (frame_path old) i.place
      → slice_get old.file.tree.statements.items old.next ≡ Some (file_statement.Import i)
      → Meets legal files input the_resolver chain by (path_buf_text i.path) r.now m
      (Ok (met.Opened file)) → parent.file ≡ old.file → parent.next ≡ old.next + 1
      → parent.height ≡ old.height → frame.file ≡ file → frame.next ≡ 0 → frame.height ≡ 0
      → IsRunning legal files walk input a (stack ++ parent ∷ []) frame m
  running-opened stack old parent frame i l m chain by file r chain_is by_is at meets file_is
      next_is height_is frame_is start low =
      let p = path_buf_text i.path in
      let b = meets.0 in
      let named : frame_path parent ≡ frame_path old =
      ap (λ (z : LoadedFile). string_bytes z.path) file_is in
      let called : frame_path frame ≡ p =
      ap (λ (z : LoadedFile). string_bytes z.path) frame_is ∙ meets.2.path in
      let later : imports_left parent ≡ imports_in (drop (old.next + 1)
      old.file.tree.statements.items) = rw (file_is, next_is) refl in
      let next : imports_left old ≡ import_syntax i ∷ imports_left parent =
      left-import old.file.tree.statements.items old.next i at
      ∙ ap (λ z. import_syntax i ∷ z) (sym later) in
      let c = chain_of [] stack ++ frame_path old ∷ [] in
      let inner : At = meets_at files.trees input (c ++ p ∷ []) p
      (imports_in file.tree.statements.items) (raised 0 b) in
      let step = at-import c (frame_path old) i (imports_left parent) (raised old.height r.now)
      (back old.height inner) (rw (chain_is, by_is) at (meets.3 old.height)) in
      let left = all-left frame file frame_is start in
      let outer : chain_of [] (stack ++ parent ∷ []) ≡ c = chain_of-push [] stack parent
      ∙ ap (λ z. chain_of [] stack ++ z ∷ []) named in
      let above : At = meets_at files.trees input (chain_of [] (stack ++ parent ∷ [])
      ++ frame_path frame ∷ []) (frame_path frame) (imports_left frame) (raised frame.height b) in
      let inner_is : inner ≡ above =
      inner-same c (chain_of [] (stack ++ parent ∷ [])) p (frame_path frame)
      (imports_in file.tree.statements.items) (imports_left frame) (raised 0 b)
      (raised frame.height b) (sym outer) (sym called) (sym left)
      (ap (λ z. raised z b) (sym low)) in
      record {
        now = b;
        stands = meets.1;
        file = file-first frame file p frame_is meets.2;
        below = frames-push (λ (f : LoadFrame). IsLoadedFile files (frame_path f) f.file) stack
            parent r.below (file-moved old parent file_is r.file);
        whole = λ k. r.whole k
            ∙ ap (λ z. back k (unwinds files.trees input [] stack
            (meets_at files.trees input c (frame_path old) z (raised old.height r.now)))) next
            ∙ ap (λ z. back k (unwinds files.trees input [] stack z)) step
            ∙ at-same stack (frame_path old) (frame_path parent) (imports_left parent)
            (imports_left parent) (back old.height inner) (back parent.height above) k (sym named)
            refl
            (ap (back old.height) inner_is ∙ ap (λ z. back z above) (sym height_is))
            ∙ ap (back k) (sym (unwinds-push files.trees input [] stack parent above));
      }

  -- memory ran out while it was met
  pub running-broken : (stack : List LoadFrame) (old : LoadFrame) (i : Import) (l m : Loader)
      (chain : List Text) (by : AskedBy) (e : AllocError)
      (r : IsRunning legal files walk input a stack old l)
      → chain ≡ chain_of [] stack ++ frame_path old ∷ []
      → by ≡ by_import (frame_path old) i.place
      → slice_get old.file.tree.statements.items old.next ≡ Some (file_statement.Import i)
      → Meets legal files input the_resolver chain by (path_buf_text i.path) r.now m (Err e)
      → (k : ℕ) → IsCutOff legal (walk (raised k a)) m.reads.items
  running-broken stack old i l m chain by e r chain_is by_is at cut k =
      let p = path_buf_text i.path in
      let c = chain_of [] stack ++ frame_path old ∷ [] in
      let later = imports_in (drop (old.next + 1) old.file.tree.statements.items) in
      let next : imports_left old ≡ import_syntax i ∷ later =
      left-import old.file.tree.statements.items old.next i at in
      let b : At = meet files.trees input the_resolver (100 - length c) c
      (by_import (frame_path old) i.place) p (raised old.height r.now) in
      let d : At = meets_at files.trees input c (frame_path old) later b in
      let is : walk (raised k a) ≡ back k (unwinds files.trees input [] stack d) = r.whole k
      ∙ ap (λ z. back k (unwinds files.trees input [] stack
      (meets_at files.trees input c (frame_path old) z (raised old.height r.now)))) next in
      cut-later legal b (walk (raised k a)) m.reads.items
      (rw (chain_is, by_is) at (cut old.height))
      (extends-trans b.reads d (walk (raised k a))
      (extends-at files.trees input c (frame_path old) later b) (behind-extends stack d k is))

  -- ** a file is closed

  -- what the load becomes behind the frames below
  pub record IsClosed (stack : List LoadFrame) (top : LoadFrame) (m : Loader) : Type 0 where
    pub now : At
    pub stands : StandsAt legal files now m
    pub height : now.height ≡ suc top.height
    pub below : AllByRecursion (λ (f : LoadFrame). IsLoadedFile files (frame_path f) f.file) stack
    pub whole : (k : ℕ) → walk (raised k a) ≡ back k (unwinds files.trees input [] stack now)

  pub running-close : (stack : List LoadFrame) (top : LoadFrame) (l m : Loader) (h : ℕ)
      → IsRunning legal files walk input a stack top l → imports_left top ≡ []
      → ClosesFile top l m (Ok h) → IsClosed stack top m
  running-close stack top l m h r none closing = record {
    now = closes (frame_path top) (raised top.height r.now);
    stands = rw (closing.reads, closing.unread)
        (stands-closes legal files r.now l.reads.items l.steps.list m.steps.list l.files.items
        m.files.items l.unread.items (frame_path top) top.height top.file r.stands closing.step
        closing.files r.file);
    height = refl;
    below = r.below;
    whole = λ k. r.whole k
        ∙ ap (λ z. back k (unwinds files.trees input [] stack
        (meets_at files.trees input (chain_of [] stack ++ frame_path top ∷ []) (frame_path top) z
        (raised top.height r.now)))) none;
  }

  -- the last of the frames
  pub closed-end : (stack : List LoadFrame) (top : LoadFrame) (m : Loader)
      (r : Result (Unit {0}) AllocError) → IsClosed stack top m → stack ≡ [] → r ≡ Ok tt
      → Goes legal files walk a m r
  closed-end stack top m r c none is =
      rw is (
        c.now,
        c.stands,
        λ k. (
          max k c.now.height,
          c.whole k ∙ ap (λ z. back k (unwinds files.trees input [] z c.now)) none,
        ),
      )

  -- the frame below goes on
  pub closed-pop : (stack rest : List LoadFrame) (top parent new : LoadFrame) (m : Loader) (h : ℕ)
      → IsClosed stack top m → stack ≡ rest ++ parent ∷ [] → new.file ≡ parent.file
      → new.next ≡ parent.next → h ≡ suc top.height → new.height ≡ max parent.height h
      → IsRunning legal files walk input a rest new m
  closed-pop stack rest top parent new m h c is file_is next_is closed_is height_is =
      let all = frames-pop (λ (f : LoadFrame). IsLoadedFile files (frame_path f) f.file) rest parent
      (rw is at c.below) in
      let named : frame_path new ≡ frame_path parent =
      ap (λ (z : LoadedFile). string_bytes z.path) file_is in
      let left : imports_left new ≡ imports_left parent = rw (file_is, next_is) refl in
      let height : back parent.height c.now ≡ raised new.height c.now =
      ap (λ z. raised z c.now)
      (ap (max parent.height) (c.height ∙ sym closed_is) ∙ sym height_is) in
      record {
        now = c.now;
        stands = c.stands;
        file = file-moved parent new file_is all.1;
        below = all.0;
        whole = λ k. c.whole k
            ∙ ap (λ z. back k (unwinds files.trees input [] z c.now)) is
            ∙ ap (back k) (unwinds-push files.trees input [] rest parent c.now)
            ∙ ap (λ z. back k (unwinds files.trees input [] rest
            (meets_at files.trees input (chain_of [] rest ++ frame_path parent ∷ [])
            (frame_path parent) (imports_left parent) z))) height
            ∙ at-same rest (frame_path parent) (frame_path new) (imports_left parent)
            (imports_left new) (raised new.height c.now) (raised new.height c.now) k (sym named)
            (sym left) refl;
      }
