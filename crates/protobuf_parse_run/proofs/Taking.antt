-- What is known of a stack's frames whatever the trees are: the numbers of their imports, and which
-- files are loaded.
use Rattle.std.proofs.Common.{◌≡◌, suc, ◌+◌, ◌≤◌, ℕ, Bool, true, false, if◌then◌else◌, inl, inr}
use Rattle.std.proofs.Common.{List, [], ◌∷◌, ◌++◌, Option, Some, None, Ok, refl, sym, ◌∙◌, ap}
use Rattle.std.proofs.Common.{subst, append-nil, length, take, slice_get}
use Rattle.std.specs.List.{AllByRecursion}
use Rattle.std.proofs.lemmas.List.{map-append, take_all}
use Rattle.protobuf_parse_base.specs.PathViews.{path_buf_text}
use Rattle.protobuf_parse_syntax.specs.Dependencies.{is_public}
use Rattle.protobuf_parse_syntax.specs.Trees.{file_syntax, import_syntax}
use Rattle.protobuf_parse_syntax.specs.declared.tree.FileStatement.{FileStatement}
use Rattle.protobuf_parse_syntax.specs.declared.tree.FileStatement.TheVariants as file_statement
use Rattle.protobuf_parse_syntax.specs.declared.tree.Import.{Import}
use Rattle.protobuf_parse_model.specs.Descriptors.{Text}
use Rattle.protobuf_parse_run.specs.declared.tables.Tables.{Tables}
use Rattle.protobuf_parse_run.specs.declared.frame.LoadFrame.{LoadFrame}
use Rattle.protobuf_parse_run.specs.declared.loader.LoadedAs.{LoadedAs}
use Rattle.protobuf_parse_run.specs.declared.log.ReadEntry.{ReadEntry}
use Rattle.protobuf_parse_run.specs.Walks.{among, import_paths, public_path, public_paths}
use Rattle.protobuf_parse_run.specs.Loading.{AreKnown, FilesAreNumbered, AreUnloaded, LoadedEntry}
use Rattle.protobuf_parse_run.specs.Loading.{Grows, IsNumbered, MoreLoaded, Named, ElaboratesOver}
use Rattle.protobuf_parse_run.specs.Loading.{file_at, named_trees, read_paths}
use Rattle.protobuf_parse_run.specs.Frames.{IsOpened, IsTaken, Joined, done_in, imports_in}
use Rattle.protobuf_parse_run.specs.Frames.{is_public_at, number_if, frame_path, public_done}
use Rattle.protobuf_parse_run.specs.Frames.{public_in}
use Rattle.protobuf_parse_run.proofs.Keeping.{among-in, among-left, among-last}
use Rattle.protobuf_parse_run.proofs.Knowing.{known-push, met-push, read-since, unloaded-push}
use Rattle.protobuf_parse_run.proofs.Numbers.{are-append, are-more, name_of}
use Rattle.protobuf_parse_run.proofs.Stacks.{done-import, done-other, frames-into, public-import}
use Rattle.protobuf_parse_run.proofs.Stacks.{public-other}

-- the imports of a frame at its end
pub done-all : (f : LoadFrame) → length f.tree.statements.items ≤ f.next
    → done_in f ≡ import_paths (file_syntax f.tree)
done-all f le = ap imports_in (take_all f.next f.tree.statements.items le)

pub public-all : (f : LoadFrame) → length f.tree.statements.items ≤ f.next
    → public_done f ≡ public_paths (file_syntax f.tree)
public-all f le = ap public_in (take_all f.next f.tree.statements.items le)

-- the number of an import, if it is public
public-one : (files : List Named) (b : Bool) (n : ℕ) (p : Text) → IsNumbered files n p
    → FilesAreNumbered files (number_if b n) (if b then p ∷ [] else [])
public-one files true n p h = (h, tt)
public-one files false n p h = tt

-- more was loaded and read
pub taken-more : (loaded new : List LoadedEntry) (log after : List ReadEntry) (f : LoadFrame)
    → MoreLoaded loaded new → Grows log after → IsTaken loaded log f → IsTaken new after f
taken-more loaded new log after f more grows t =
    let longer : named_trees new ≡ named_trees loaded ++ named_trees more.0 = ap named_trees more.1
    ∙ map-append name_of loaded more.0 in
    record {
      numbered = subst (λ (z : List Named). FilesAreNumbered z f.below.items (done_in f))
          (sym longer)
          (are-more (named_trees loaded) (named_trees more.0) f.below.items (done_in f) t.numbered);
      public = subst (λ (z : List Named). FilesAreNumbered z f.public.items (public_done f))
          (sym longer)
          (are-more (named_trees loaded) (named_trees more.0) f.public.items
          (public_done f) t.public);
      read = ap (λ z. among (frame_path f) (read_paths z)) grows.1
          ∙ (ap (among (frame_path f))
          (map-append (λ (e : ReadEntry). path_buf_text e.path) log grows.0)
          ∙ among-left (frame_path f) (read_paths log) (read_paths grows.0) t.read);
      few = t.few;
    }

pub all_taken-more : (loaded new : List LoadedEntry) (log after : List ReadEntry)
    (fs : List LoadFrame)
    → MoreLoaded loaded new → Grows log after → AllByRecursion (IsTaken loaded log) fs
    → AllByRecursion (IsTaken new after) fs
all_taken-more loaded new log after fs more grows a =
    frames-into (IsTaken loaded log) (IsTaken new after)
    (λ f t. taken-more loaded new log after f more grows t) fs a

-- the next import is loaded
pub taken-joined : (loaded : List LoadedEntry) (log : List ReadEntry) (old new : LoadFrame)
    (placed : LoadedAs) (i : Import) (q : Text) → IsTaken loaded log old
    → slice_get old.tree.statements.items old.next ≡ Some (file_statement.Import i)
    → path_buf_text i.path ≡ q → IsNumbered (named_trees loaded) placed.number q
    → Joined old placed new → IsTaken loaded log new
taken-joined loaded log old new placed i q t at named number j =
    let next : done_in new ≡ imports_in (take (suc old.next) old.tree.statements.items) =
    rw (j.tree_is, j.next) refl in
    let done : done_in new ≡ done_in old ++ q ∷ [] = next
    ∙ (done-import old.tree.statements.items old.next i at
    ∙ ap (λ z. done_in old ++ z ∷ []) named) in
    let behind : public_done new ≡ public_in (take (suc old.next) old.tree.statements.items) =
    rw (j.tree_is, j.next) refl in
    let publicly : public_done new ≡ public_done old ++ public_path (import_syntax i) = behind
    ∙ public-import old.tree.statements.items old.next i at in
    let added : new.public.items ≡ old.public.items
    ++ number_if (is_public i.vis) placed.number = j.public
    ∙ ap (λ (s : Option FileStatement). old.public.items
    ++ number_if (is_public_at s) placed.number) at in
    let here : IsNumbered (named_trees loaded) placed.number (path_buf_text i.path) =
    subst (λ (z : Text). IsNumbered (named_trees loaded) placed.number z) (sym named) number in
    record {
      numbered =
          rw (j.below, done)
          (are-append (named_trees loaded) old.below.items (placed.number ∷ []) (done_in old)
          (q ∷ []) t.numbered (number, tt));
      public =
          rw (added, publicly)
          (are-append (named_trees loaded) old.public.items
          (number_if (is_public i.vis) placed.number) (public_done old)
          (public_path (import_syntax i)) t.public
          (public-one (named_trees loaded) (is_public i.vis) placed.number
          (path_buf_text i.path) here));
      read = rw j.path_is t.read;
      few = rw j.tree_is t.few;
    }

-- the next statement is no import
pub taken-other : (loaded : List LoadedEntry) (log : List ReadEntry) (old new : LoadFrame)
    (x : FileStatement) → IsTaken loaded log old
    → slice_get old.tree.statements.items old.next ≡ Some x
    → ((i : Import) → x ≡ file_statement.Import i → ⊥) → new ≡ record old { next = suc old.next }
    → IsTaken loaded log new
taken-other loaded log old new x t at other is =
    let d : done_in (record old { next = suc old.next })
    ≡ done_in old = done-other old.tree.statements.items old.next x at other in
    let e : public_done (record old { next = suc old.next })
    ≡ public_done old = public-other old.tree.statements.items old.next x at other in
    rw is (record {
      numbered = rw d t.numbered;
      public = rw e t.public;
      read = t.read;
      few =
          t.few;
    })

-- ** files that aren't loaded

pub unloaded-enter : (chain : List Text) (loaded : List LoadedEntry) (q : Text)
    → AreUnloaded chain loaded
    → file_at q loaded ≡ None → AreUnloaded (chain ++ q ∷ []) loaded
unloaded-enter chain loaded q u none p on =
    elim (among-in p q chain on) [
      | inl w ↦ u p w
      | inr w ↦ subst (λ (z : Text). file_at z loaded ≡ None) (sym w) none
    ]

pub unloaded-first : (loaded : List LoadedEntry) (q : Text) → file_at q loaded ≡ None
    → AreUnloaded (q ∷ []) loaded
unloaded-first loaded q none = unloaded-enter [] loaded q (λ p on. cc) none

-- a file that was opened
pub taken-new : (chain after : List Text) (path : Text) (loaded : List LoadedEntry)
    (old new : List ReadEntry) (f : LoadFrame) → IsOpened chain path loaded old after new f
    → IsTaken loaded new f
taken-new chain after path loaded old new f o = record {
  numbered = rw (o.below, o.next) tt;
  public = rw (o.public, o.next) tt;
  read = rw o.path_is
      (read-since path old new new o.entry o.reads o.named ([], sym (append-nil new)));
  few = o.few;
}

-- what there is when a file was closed
pub record IsClosed (old new : List LoadedEntry) (tables : Tables) (log : List ReadEntry)
    (chain : List Text) (path : Text) (placed : LoadedAs) : Type 0 where
  pub known : AreKnown new tables log
  pub more : MoreLoaded old new
  pub number : IsNumbered (named_trees new) placed.number path
  pub unloaded : AreUnloaded chain new

pub closed-is : (f : LoadFrame) (old new : List LoadedEntry)
    (before after : Tables)
    (log : List ReadEntry) (chain : List Text) (placed : LoadedAs) → AreKnown old before log
    → IsTaken old log f → AreUnloaded (chain ++ frame_path f ∷ []) old
    → among (frame_path f) chain ≡ false → length f.tree.statements.items ≤ f.next
    → ElaboratesOver (frame_path f) (file_syntax f.tree)
    (f.height + 1) f.read f.below.items f.public.items log old new after (Ok placed)
    → IsClosed old new after log chain (frame_path f) placed
closed-is f old new before after log chain placed known taken unloaded off le elaborates =
    let none = unloaded (frame_path f) (among-last (frame_path f) chain) in
    let a = elaborates none in
    let numbered : FilesAreNumbered (named_trees old) f.below.items
    (import_paths (file_syntax f.tree)) =
    subst (λ (z : List Text). FilesAreNumbered (named_trees old) f.below.items z)
    (done-all f le) taken.numbered in
    let publicly : FilesAreNumbered (named_trees old) f.public.items
    (public_paths (file_syntax f.tree)) =
    subst (λ (z : List Text). FilesAreNumbered (named_trees old) f.public.items z)
    (public-all f le) taken.public in
    let front : AreUnloaded chain old = λ p on. unloaded p
    (among-left p chain (frame_path f ∷ []) on) in
    record {
      known = known-push (frame_path f) (file_syntax f.tree)
          (f.height + 1) f.read f.below.items f.public.items old new before after log placed known
          taken.read numbered publicly none a;
      more = ((a.key, a.file) ∷ [], a.entries);
      number =
          (met-push (frame_path f) (file_syntax f.tree)
          (f.height + 1) f.read f.below.items f.public.items old new before after log placed known
          taken.read numbered publicly none a).number;
      unloaded =
          rw a.entries (unloaded-push chain old (a.key, a.file) (frame_path f) front a.named off);
    }
