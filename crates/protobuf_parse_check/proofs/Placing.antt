-- The numbers of the files that a file imports.
use Rattle.std.proofs.Common.{◌≡◌, ◌∙◌, ℕ, suc, Bool, true, false, List, [], ◌∷◌, ◌++◌}
use Rattle.std.proofs.Common.{Some, ap, flat_map, map, option_map, refl, subst, sym, inl, inr}
use Rattle.std.proofs.Common.{if◌then◌else◌, append_assoc}
use Rattle.std.specs.Prelude.{bytes_eq, string_bytes}
use Rattle.protobuf_parse_syntax.specs.Dependencies.{imported, imports, is_public}
use Rattle.protobuf_parse_syntax.specs.Trees.{FileSyntax, ImportSyntax, StatementSyntax}
use Rattle.protobuf_parse_model.specs.Descriptors.{Text}
use Rattle.protobuf_parse_run.specs.Loaded.{number_in}
use Rattle.protobuf_parse_run.specs.Loading.{FilesAreNumbered, IsNumbered, LoadedEntry, named_trees}
use Rattle.protobuf_parse_run.specs.Loading.{paths_in}
use Rattle.protobuf_parse_run.specs.Walks.{among, import_paths, public_path, public_paths}
use Rattle.protobuf_parse_run.specs.Walks.{public_paths_of}
use Rattle.protobuf_parse_run.proofs.Finding.{numbered}
use Rattle.protobuf_parse_run.proofs.Keeping.{bool_cases, or_left, or_right, text-same}
use Rattle.protobuf_parse_run.proofs.Numbers.{are-append, numbered-at}
use Rattle.protobuf_parse_check.specs.Judging.{import_number, public_number}

-- a path that is loaded has a number
has-number : (q : Text) (loaded : List LoadedEntry)
    → among q (paths_in (named_trees loaded)) ≡ true
    → (n : ℕ) × (number_in q loaded ≡ Some n)
has-number q [] m = cc
has-number q (e ∷ loaded) m =
    elim (bool_cases (bytes_eq q (string_bytes e.0))) [
      | inl h ↦ (0, rw h refl)
      | inr h ↦ let r = has-number q loaded (rw h at m) in
          (suc r.0, rw h (ap (option_map suc) r.1))
    ]

pub number-is : (q : Text) (loaded : List LoadedEntry) (n : ℕ) → number_in q loaded ≡ Some n
    → IsNumbered (named_trees loaded) n q
number-is q loaded n h =
    let r = numbered q loaded n h in numbered-at loaded n r.0 q r.1 r.3

module _ (loaded : List LoadedEntry) where
  abbrev all_loaded : List ImportSyntax → Type 0
  all_loaded is = (q : Text) → among q (map (λ (i : ImportSyntax). i.path) is) ≡ true
      → among q (paths_in (named_trees loaded)) ≡ true

  first-loaded : (i : ImportSyntax) (is : List ImportSyntax) → all_loaded (i ∷ is)
      → among i.path (paths_in (named_trees loaded)) ≡ true
  first-loaded i is there = there i.path
      (or_left (bytes_eq i.path i.path) (among i.path (map (λ (j : ImportSyntax). j.path) is))
      (text-same i.path))

  others-loaded : (i : ImportSyntax) (is : List ImportSyntax) → all_loaded (i ∷ is)
      → all_loaded is
  others-loaded i is there q m = there q
      (or_right (bytes_eq q i.path) (among q (map (λ (j : ImportSyntax). j.path) is)) m)

  one-numbered : (i : ImportSyntax) → among i.path (paths_in (named_trees loaded)) ≡ true
      → FilesAreNumbered (named_trees loaded) (import_number loaded i) (i.path ∷ [])
  one-numbered i m =
      let r = has-number i.path loaded m in
      rw r.1 (number-is i.path loaded r.0 r.1, tt)

  imports-numbered : (is : List ImportSyntax) → all_loaded is
      → FilesAreNumbered (named_trees loaded) (flat_map (import_number loaded) is)
      (map (λ (i : ImportSyntax). i.path) is)
  imports-numbered [] there = tt
  imports-numbered (i ∷ is) there =
      are-append (named_trees loaded) (import_number loaded i) (flat_map (import_number loaded) is)
      (i.path ∷ []) (map (λ (i : ImportSyntax). i.path) is)
      (one-numbered i (first-loaded i is there))
      (imports-numbered is (others-loaded i is there))

  one-public : (i : ImportSyntax) → among i.path (paths_in (named_trees loaded)) ≡ true
      → FilesAreNumbered (named_trees loaded) (public_number loaded i) (public_path i)
  one-public i m = at (is_public i.vis)
    where
      at : (b : Bool) → FilesAreNumbered (named_trees loaded)
          (if b then import_number loaded i else []) (if b then i.path ∷ [] else [])
      at true = one-numbered i m
      at false = tt

  public-numbered : (is : List ImportSyntax) → all_loaded is
      → FilesAreNumbered (named_trees loaded) (flat_map (public_number loaded) is)
      (flat_map public_path is)
  public-numbered [] there = tt
  public-numbered (i ∷ is) there =
      are-append (named_trees loaded) (public_number loaded i) (flat_map (public_number loaded) is)
      (public_path i) (flat_map public_path is)
      (one-public i (first-loaded i is there))
      (public-numbered is (others-loaded i is there))

pub flat-append : {A B : Type 0} (f : A → List B) (xs ys : List A)
    → flat_map f (xs ++ ys) ≡ flat_map f xs ++ flat_map f ys
flat-append f [] ys = refl
flat-append f (x ∷ xs) ys =
    ap (λ zs. f x ++ zs) (flat-append f xs ys)
    ∙ sym (append_assoc (f x) (flat_map f xs) (flat_map f ys))

-- the public imports, statement by statement
paths-public : (ss : List StatementSyntax)
    → flat_map public_paths_of ss ≡ flat_map public_path (imports ss)
paths-public [] = refl
paths-public (s ∷ ss) =
    ap (λ (ps : List Text). public_paths_of s ++ ps) (paths-public ss)
    ∙ sym (flat-append public_path (imported s) (imports ss))

-- the numbers of all imports, where each is loaded
pub all-numbered : (loaded : List LoadedEntry) (t : FileSyntax)
    → ((q : Text) → among q (import_paths t) ≡ true
    → among q (paths_in (named_trees loaded)) ≡ true)
    → FilesAreNumbered (named_trees loaded)
    (flat_map (import_number loaded) (imports t.statements)) (import_paths t)
all-numbered loaded t there = imports-numbered loaded (imports t.statements) there

-- and those of the public ones
pub publicly-numbered : (loaded : List LoadedEntry) (t : FileSyntax)
    → ((q : Text) → among q (import_paths t) ≡ true
    → among q (paths_in (named_trees loaded)) ≡ true)
    → FilesAreNumbered (named_trees loaded)
    (flat_map (public_number loaded) (imports t.statements)) (public_paths t)
publicly-numbered loaded t there =
    subst (λ (ps : List Text). FilesAreNumbered (named_trees loaded)
    (flat_map (public_number loaded) (imports t.statements)) ps)
    (sym (paths-public t.statements))
    (public-numbered loaded (imports t.statements) there)
