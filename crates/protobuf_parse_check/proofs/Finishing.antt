-- A whole load that was judged.
use Rattle.std.proofs.Common.{◌≡◌, ◌∙◌, ◌≤◌, ℕ, Bool, true, false, List, [], ◌∷◌, ◌++◌, Option}
use Rattle.std.proofs.Common.{None, Some, ap, arith, inl, inr, map, refl, subst, sym, Contains}
use Rattle.std.specs.Prelude.{bytes_eq, slice_get, string_bytes}
use Rattle.std.specs.List.{AllByRecursion}
use Rattle.std.proofs.Common.{length, length-append}
use Rattle.std.proofs.lemmas.List.{nil_from_length}
use Rattle.protobuf_parse_syntax.specs.Trees.{FileSyntax, file_syntax}
use Rattle.protobuf_parse_model.specs.Descriptors.{Text}
use Rattle.protobuf_parse_run.specs.declared.loader.LoadedFile as judged
use Rattle.protobuf_parse_run.specs.declared.log.ReadEntry.{ReadEntry}
use Rattle.protobuf_parse_base.specs.Multimaps.{values_under}
use Rattle.protobuf_parse_model.specs.Tables.{TableTells}
use Rattle.protobuf_parse_options.specs.WithoutOptions.{DifferOnlyInOptions}
use Rattle.protobuf_parse_run.specs.Loading.{Agrees, IndexBegins, IsNumbered, LoadedEntry}
use Rattle.protobuf_parse_run.specs.Loading.{descriptor_in, file_at, named_trees, trees_of}
use Rattle.protobuf_parse_run.specs.Run.{HasTrees, IsTree, text_read}
use Rattle.protobuf_parse_run.specs.Walks.{Input, Trees, among}
use Rattle.protobuf_parse_run.proofs.Keeping.{bool_cases, none_some, text-same, text-true}
use Rattle.protobuf_parse_run.proofs.Knowing.{known-none}
use Rattle.protobuf_parse_syntax.proofs.Sizes.{tree_size}
use Rattle.protobuf_parse_syntax.specs.Counts.{statements_in}
use Rattle.protobuf_parse_load.specs.declared.log.LoadedFile.{LoadedFile}
use Rattle.protobuf_parse_load.specs.Loads.{AreLoadedFiles, IsFirstRead, IsLoadedFile, ReadFiles}
use Rattle.protobuf_parse_load.specs.Steps.{Step, closed_paths, held}
use Rattle.protobuf_parse_check.specs.declared.judge.Judge.{Judge}
use Rattle.protobuf_parse_check.specs.declared.verdict.Verdict.{Verdict}
use Rattle.protobuf_parse_check.specs.Judging.{Bringers, HoldSteps, HoldsInput}
use Rattle.protobuf_parse_check.specs.Reports.{AreReports, Checked, IsReport, files_of, read_files}
use Rattle.protobuf_parse_check.specs.SoFar.{AreFew, AreVerdicts, HoldReads, HoldsRead, IsVerdict}
use Rattle.protobuf_parse_check.specs.SoFar.{BeginsIndex, IsSoFar, KeepsBringers, TellsNames}
use Rattle.protobuf_parse_check.specs.SoFar.{plain_named, report_in, reports_of}

-- ** the files of a load

abbrev pub path_of : LoadedFile → Text
path_of f = string_bytes f.path

pub paths-of : (files : ReadFiles) (ps : List Text) (fs : List LoadedFile)
    → AreLoadedFiles files ps fs → ps ≡ map path_of fs
paths-of files [] [] a = refl
paths-of files (p ∷ ps) (f ∷ fs) a =
    ap (λ z. z ∷ ps) (sym a.0.path) ∙ ap (λ zs. path_of f ∷ zs) (paths-of files ps fs a.1)
paths-of files [] (f ∷ fs) a = absurd a
paths-of files (p ∷ ps) [] a = absurd a

pub each-loaded : (files : ReadFiles) (ps : List Text) (fs : List LoadedFile)
    → AreLoadedFiles files ps fs
    → AllByRecursion (λ (f : LoadedFile). IsLoadedFile files (path_of f) f) fs
each-loaded files [] [] a = tt
each-loaded files (p ∷ ps) (f ∷ fs) a = (
  subst (λ (q : Text). IsLoadedFile files q f) (sym a.0.path) a.0,
  each-loaded files ps fs a.1,
)
each-loaded files [] (f ∷ fs) a = absurd a
each-loaded files (p ∷ ps) [] a = absurd a

one-few : (bundled : List (Text × Text)) (log : List ReadEntry) (trees : Trees)
    → HasTrees bundled log trees → (p : Text) (t : FileSyntax) → trees p ≡ Some t
    → statements_in t ≤ 2147483647
one-few bundled log trees has p t is =
    at (text_read bundled log p) (subst (λ (o : Option FileSyntax).
    IsTree (text_read bundled log p) o) is (has p))
  where
    at : (text : Option Text) → IsTree text (Some t) → statements_in t ≤ 2147483647
    at (Some text) h = tree_size text t h.1
    at None h = absurd h

pub files-few : (c : Checked) → HasTrees c.bundled c.reads c.whole → (ps : List Text)
    (fs : List LoadedFile) → AreLoadedFiles (read_files c) ps fs → AreFew fs
files-few c has [] [] a = tt
files-few c has (p ∷ ps) (f ∷ fs) a = (
  one-few c.bundled c.reads c.whole has p (file_syntax f.tree) a.0.tree,
  files-few c has ps fs a.1,
)
files-few c has [] (f ∷ fs) a = absurd a
files-few c has (p ∷ ps) [] a = absurd a

-- ** reports

one-report : (c : Checked) (p : Text) (e : LoadedEntry) (v : Verdict) → IsVerdict c p e v
    → IsReport c p (report_in e v)
one-report c p e v is = record {
  tree = is.tree;
  whole = is.whole;
  path = is.named;
  read = is.read;
  trimmed_is = is.kept;
  state = is.state;
  repeats = is.repeats;
  faults = is.faults;
  descriptor = is.descriptor;
}

pub are-reports : (c : Checked) (ps : List Text) (es : List LoadedEntry) (vs : List Verdict)
    → AreVerdicts c ps es vs → AreReports c ps (reports_of es vs)
are-reports c [] [] [] a = tt
are-reports c (p ∷ ps) (e ∷ es) (v ∷ vs) a =
    (one-report c p e v a.0, are-reports c ps es vs a.1)
are-reports c [] (e ∷ es) vs a = absurd a
are-reports c [] [] (v ∷ vs) a = absurd a
are-reports c (p ∷ ps) [] vs a = absurd a
are-reports c (p ∷ ps) (e ∷ es) [] a = absurd a

-- ** inputs that were held against what was loaded

-- the loaded file of a path
file-of : (c : Checked) (q : Text) (ps : List Text) (es : List LoadedEntry) (vs : List Verdict)
    → AreVerdicts c ps es vs → among q ps ≡ true
    → (f : judged.LoadedFile) × (file_at q es ≡ Some f) × IsFirstRead c.reads q f.read
file-of c q [] [] [] a m = cc
file-of c q (p ∷ ps) (e ∷ es) (v ∷ vs) a m =
    elim (bool_cases (bytes_eq q p)) [
      | inl w ↦
          let same : q ≡ p = text-true q p w in
          let here : bytes_eq q (string_bytes e.0) ≡ true =
          subst (λ (z : Text). bytes_eq q z ≡ true) (same ∙ sym a.0.named) (text-same q) in (
            e.1,
            rw here refl,
            subst (λ (z : Text). IsFirstRead c.reads z e.1.read) (sym same) a.0.read,
          )
      | inr w ↦
          let r = file-of c q ps es vs a.1 (rw w at m) in
          let other : bytes_eq q (string_bytes e.0) ≡ false =
          subst (λ (z : Text). bytes_eq q z ≡ false) (sym a.0.named) w in
          (r.0, rw other r.1, r.2)
    ]
file-of c q [] (e ∷ es) vs a m = absurd a
file-of c q [] [] (v ∷ vs) a m = absurd a
file-of c q (p ∷ ps) [] vs a m = absurd a
file-of c q (p ∷ ps) (e ∷ es) [] a m = absurd a

module _ (c : Checked) (inputs : List Input) (ps : List Text) (es : List LoadedEntry)
    (vs : List Verdict) (a : AreVerdicts c ps es vs) where
  one-holds : (n : ℕ) (p : Text) (read : ℕ) → HoldsRead inputs c.reads ps n p read
      → HoldsInput inputs c.reads es n p read
  one-holds n p read h =
      let f = file-of c p ps es vs a h.there in
      record {
        own = h.own;
        input = h.input;
        entry = h.entry;
        found = h.found;
        readers = h.readers;
        file = f.0;
        is_loaded = f.1;
        was_read = f.2;
      }

  pub hold-steps : (steps : List Step) → HoldReads inputs c.reads ps steps
      → HoldSteps inputs c.reads es steps
  hold-steps [] h = tt
  hold-steps (held n p read ∷ steps) h = (one-holds n p read h.0, hold-steps steps h.1)
  hold-steps (_ ∷ steps) h = (tt, hold-steps steps h.1)

-- one of the files
pub all-at : (P : LoadedFile → Type 0) (front : List LoadedFile) (f : LoadedFile)
    (rest : List LoadedFile) → AllByRecursion P (front ++ f ∷ rest) → P f
all-at P [] f rest a = a.0
all-at P (x ∷ front) f rest a = all-at P front f rest a.1

-- ** no file

none-in : (n : ℕ) → Contains [] n → ⊥
none-in n (k, lt, is) = omega (arith, lt)

none-noted : (c : Checked) (extension : Bool) (loaded : List LoadedEntry) (bringers : Bringers)
    → loaded ≡ [] → ((q : Text) → values_under bringers q ≡ [])
    → KeepsBringers c extension loaded bringers
none-noted c extension loaded bringers none empty = record {
  only = λ name n h. absurd (none-in n (subst (λ (ns : List ℕ). Contains ns n) (empty name) h));
  all = λ name n q at h.
      let gone = subst (λ (es : List LoadedEntry). IsNumbered (named_trees es) n q) none at in
      absurd (none_some (q, gone.0) gone.1);
}

pub so-far-none : (c : Checked) (j : Judge) (paths : List Text) → closed_paths c.steps ≡ paths
    → j.loaded.entries ≡ [] → TellsNames j → BeginsIndex j
    → ((q : Text) → values_under j.brought.types q ≡ [])
    → ((q : Text) → values_under j.brought.extensions q ≡ []) → j.verdicts.items ≡ []
    → IsSoFar c j [] paths
so-far-none c j paths order none tells begins types extensions verdicts = record {
  order = order;
  known = known-none j.loaded.entries j.tables c.reads none
      (subst (λ (es : List LoadedEntry). TableTells j.tables.names (trees_of (named_trees es))) none
      tells)
      (subst (λ (es : List LoadedEntry). IndexBegins j.tables.spots (map descriptor_in es)) none
      begins);
  agrees = subst (λ (es : List LoadedEntry). Agrees (files_of c).trees (named_trees es)) (sym none)
      (λ n p t h. absurd (none_some (p, t) h));
  rising = λ n e h. absurd (none_some e
      (subst (λ (es : List LoadedEntry). slice_get es n ≡ Some e) none h));
  alike = subst (λ (es : List LoadedEntry). DifferOnlyInOptions (map descriptor_in es)
      (map (plain_named c) (named_trees es))) (sym none) refl;
  types = none-noted c false j.loaded.entries j.brought.types none types;
  extensions = none-noted c true j.loaded.entries j.brought.extensions none extensions;
  verdicts = subst (λ (vs : List Verdict). AreVerdicts c [] j.loaded.entries vs) (sym verdicts)
      (subst (λ (es : List LoadedEntry). AreVerdicts c [] es []) (sym none) tt);
}

-- nothing stands behind the whole
pub nil-behind : {A : Type 0} (xs ys : List A) → xs ++ ys ≡ xs → ys ≡ []
nil-behind xs ys is =
    let long = length-append xs ys in
    let same : length (xs ++ ys) ≡ length xs = ap length is in
    nil_from_length ys (omega (arith, long, same))

pub no-reports : (es : List LoadedEntry) → reports_of es [] ≡ []
no-reports [] = refl
no-reports (e ∷ es) = refl
