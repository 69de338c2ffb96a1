-- Which trees the texts have that were read so far.
use Rattle.std.proofs.Common.{◌≡◌, ◌⊎◌, true, false, inl, inr, List, [], ◌∷◌, ◌++◌, Option, Some}
use Rattle.std.proofs.Common.{None, Result, Ok, Err, refl, sym, ◌∙◌, subst, append-nil}
use Rattle.std.specs.Prelude.{bytes_eq}
use Rattle.protobuf_parse_base.specs.PathViews.{path_buf_text}
use Rattle.protobuf_parse_syntax.specs.Trees.{FileSyntax, file_syntax}
use Rattle.protobuf_parse_syntax.specs.declared.tree.FileTree.{FileTree}
use Rattle.protobuf_parse_model.specs.Descriptors.{Text}
use Rattle.protobuf_parse_run.specs.declared.tables.Tables.{Tables}
use Rattle.protobuf_parse_run.specs.declared.fault.RunFault.{RunFault}
use Rattle.protobuf_parse_run.specs.declared.loader.LoadedFile.{LoadedFile}
use Rattle.protobuf_parse_run.specs.declared.log.ReadEntry.{ReadEntry}
use Rattle.protobuf_parse_run.specs.declared.log.ReadOutcome.{ReadOutcome}
use Rattle.protobuf_parse_run.specs.Walks.{Asked, among, Trees}
use Rattle.protobuf_parse_run.specs.Run.{FilesAreListed, Files, HaveTrees, IsTree, IsTheTree, Legal}
use Rattle.protobuf_parse_run.specs.Run.{first_read}
use Rattle.protobuf_parse_run.specs.Run.{text_given, text_read, HasTrees}
use Rattle.protobuf_parse_run.specs.Loading.{AreKnown, LoadedEntry, GoesOn, IsDecided}
use Rattle.protobuf_parse_run.specs.Loading.{ReadsTree}
use Rattle.protobuf_parse_run.specs.Loading.{file_at, read_paths}
use Rattle.protobuf_parse_run.proofs.Keeping.{bool_cases, text-true}
use Rattle.protobuf_parse_run.proofs.Reading.{Noted}

option_cases : {A : Type 0} (o : Option A) → ((a : A) × (o ≡ Some a)) ⊎ (o ≡ None)
option_cases (Some a) = inl (a, refl)
option_cases None = inr refl

-- where there is no text there is no tree
pub untold : IsTheTree None None
untold = (tt, no_tree)
  where
    no_tree : (u : Option FileSyntax) → IsTree None u → u ≡ None
    no_tree None h = refl
    no_tree (Some t) h = absurd h

-- the first read of a path stays, whatever is read later
first_read-more : (q : Text) (log : List ReadEntry) (e : ReadEntry) (o : ReadOutcome)
    → first_read q log ≡ Some o → first_read q (log ++ e ∷ []) ≡ Some o
first_read-more q [] e o h = cc
first_read-more q (x ∷ log) e o h =
    elim (bool_cases (bytes_eq q (path_buf_text x.path))) [
      | inl w ↦ rw w (rw w at h)
      | inr w ↦ let z : first_read q log ≡ Some o = (rw w at h) in
          rw w (first_read-more q log e o z)
    ]

first_read-last : (q : Text) (log : List ReadEntry) (e : ReadEntry) → first_read q log ≡ None
    → first_read q (log ++ e ∷ []) ≡ first_read q (e ∷ [])
first_read-last q [] e h = refl
first_read-last q (x ∷ log) e h =
    elim (bool_cases (bytes_eq q (path_buf_text x.path))) [
      | inl w ↦ absurd (let z : ◌≡◌ {A = Option ReadOutcome} (Some x.outcome) None = (rw w at h) in
          cc)
      | inr w ↦ let z : first_read q log ≡ None = (rw w at h) in rw w (first_read-last q log e z)
    ]

first_read-there : (q : Text) (log : List ReadEntry) → among q (read_paths log) ≡ true
    → first_read q log ≡ None → ⊥
first_read-there q [] h none = cc
first_read-there q (x ∷ log) h none =
    elim (bool_cases (bytes_eq q (path_buf_text x.path))) [
      | inl w ↦ let z : ◌≡◌ {A = Option ReadOutcome} (Some x.outcome) None = (rw w at none) in cc
      | inr w ↦ first_read-there q log (rw w at h) (rw w at none)
    ]

-- a path that was read keeps its tree
kept-tree : (table : List (Text × Text)) (log : List ReadEntry) (e : ReadEntry) (q : Text)
    (o : ReadOutcome) → IsDecided table log → first_read q log ≡ Some o
    → (t : Option FileSyntax) × IsTheTree (text_read table (log ++ e ∷ []) q) t
kept-tree table log e q o d h = ((d q).0, rw (first_read-more q log e o h) (rw h at ((d q).1)))

-- a path that no entry names has no text
no-tree : (table : List (Text × Text)) (log : List ReadEntry) (e : ReadEntry) (q : Text)
    → first_read q log ≡ None → bytes_eq q (path_buf_text e.path) ≡ false
    → (t : Option FileSyntax) × IsTheTree (text_read table (log ++ e ∷ []) q) t
no-tree table log e q h w = (None, rw (first_read-last q log e h, w) untold)

-- one read more, whose text has this tree or none
decided-read : (table : List (Text × Text)) (log : List ReadEntry) (e : ReadEntry) (p : Text)
    (t : Option FileSyntax) → path_buf_text e.path ≡ p
    → IsTheTree (text_given table p (Some e.outcome)) t → IsDecided table log
    → IsDecided table (log ++ e ∷ [])
decided-read table log e p t named is d q =
    elim (option_cases (first_read q log)) [
      | inl o ↦ kept-tree table log e q o.0 d o.1
      | inr h ↦ elim (bool_cases (bytes_eq q (path_buf_text e.path))) [
        | inl w ↦
            let same : p ≡ q = sym named ∙ sym (text-true q (path_buf_text e.path) w) in (
              t,
              rw (first_read-last q log e h, w)
                  (subst (λ (z : Text). IsTheTree (text_given table z (Some e.outcome)) t) same is),
            )
        | inr w ↦ no-tree table log e q h w
      ]
    ]

-- another read of a path that was read before
decided-again : (table : List (Text × Text)) (log : List ReadEntry) (e : ReadEntry)
    → among (path_buf_text e.path) (read_paths log) ≡ true → IsDecided table log
    → IsDecided table (log ++ e ∷ [])
decided-again table log e there d q =
    elim (option_cases (first_read q log)) [
      | inl o ↦ kept-tree table log e q o.0 d o.1
      | inr h ↦ elim (bool_cases (bytes_eq q (path_buf_text e.path))) [
        | inl w ↦ absurd
            (first_read-there (path_buf_text e.path) log there
            (subst (λ (z : Text). first_read z log ≡ None)
            (text-true q (path_buf_text e.path) w) h))
        | inr w ↦ no-tree table log e q h w
      ]
    ]

pub decided-same : (table : List (Text × Text)) (old new : List ReadEntry) → new ≡ old
    → IsDecided table old → IsDecided table new
decided-same table old new same d = subst (λ (z : List ReadEntry). IsDecided table z) (sym same) d

-- a file was read, or not
pub decided-file : (legal : Legal) (table : List (Text × Text)) (a : Asked) (p : Text)
    (old new : List ReadEntry) (r : Result FileTree RunFault) → ReadsTree legal table a p old new r
    → IsDecided table old → IsDecided table new
decided-file legal table a p old new (Ok tree) r d =
    decided-same table (old ++ r.0 ∷ []) new r.1
    (decided-read table old r.0 p (Some (file_syntax tree)) r.2 r.4 d)
decided-file legal table a p old new (Err f) (inl r) d =
    decided-same table (old ++ r.0 ∷ []) new r.1 (decided-read table old r.0 p None r.2 r.4 d)
decided-file legal table a p old new (Err f) (inr r) d = decided-same table old new r.1 d

-- the file of an input that was loaded is read again
pub decided-check : (table : List (Text × Text)) (loaded : List LoadedEntry) (tables : Tables)
    (old new : List ReadEntry) (p q : Text) (x : LoadedFile) (o : ReadOutcome) → q ≡ p
    → AreKnown loaded tables old → file_at q loaded ≡ Some x → Noted p o old new
    → IsDecided table old → IsDecided table new
decided-check table loaded tables old new p q x o is known found n d =
    let there : among (path_buf_text n.0.path) (read_paths old)
    ≡ true = subst (λ (z : Text). among z (read_paths old) ≡ true) (is ∙ sym n.2)
    (known.read q x found) in
    decided-same table (old ++ n.0 ∷ []) new n.1 (decided-again table old n.0 there d)

pub decided-none : (table : List (Text × Text)) → IsDecided table []
decided-none table q = (None, untold)

pub have-trees : (table : List (Text × Text)) (log : List ReadEntry) → IsDecided table log
    → HaveTrees table log
have-trees table log d = (λ p. (d p).0, λ p. (d p).1)

-- the files of a run with this log
abbrev pub run-files : List (Text × Text) → List ReadEntry → Trees → (Text → List Text)
    → (Text → List Text) → Files
run-files table log trees reached seen =
    record { bundled = table; reads = log; trees = trees; reached = reached; seen = seen }

pub goes-on : (table : List (Text × Text)) (log : List ReadEntry) (trees : Trees)
    (reached seen : Text → List Text) → HasTrees table log trees → FilesAreListed trees reached seen
    → GoesOn (run-files table log trees reached seen) table log
goes-on table log trees reached seen h listed =
    record { bundled = refl; reads = ([], sym (append-nil log)); trees = h; listed = listed }
