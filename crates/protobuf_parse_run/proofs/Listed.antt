-- There are lists of the files that each file reaches and sees, since only files that were read
-- have trees.
use Rattle.std.proofs.Common.{◌≡◌, true, false, inl, inr, List, [], ◌∷◌, Option, Some, None, refl}
use Rattle.std.proofs.Common.{sym, subst}
use Rattle.std.specs.Prelude.{bytes_eq}
use Rattle.protobuf_parse_base.specs.PathViews.{path_buf_text}
use Rattle.protobuf_parse_syntax.specs.Trees.{FileSyntax}
use Rattle.protobuf_parse_model.specs.Descriptors.{Text}
use Rattle.protobuf_parse_elaboration.specs.FilesByPath.{AreJust, leads, stays}
use Rattle.protobuf_parse_elaboration.proofs.Closing.{closed}
use Rattle.protobuf_parse_run.specs.Walks.{Trees, Reaches, HandsOn, Sees, sees_itself, by_import}
use Rattle.protobuf_parse_run.specs.Walks.{among}
use Rattle.protobuf_parse_run.specs.Walks.{import_paths, public_paths}
use Rattle.protobuf_parse_run.specs.Run.{FilesAreListed, HasTrees, HaveLists, IsTree, text_read}
use Rattle.protobuf_parse_run.specs.Loading.{read_paths}
use Rattle.protobuf_parse_run.specs.declared.log.ReadEntry.{ReadEntry}
use Rattle.protobuf_parse_run.proofs.Keeping.{bool_cases, or_cases, or_left, or_right, text-same}
use Rattle.protobuf_parse_run.proofs.Keeping.{text-true}
use Rattle.protobuf_parse_run.proofs.Knowing.{public-imported}

-- a path that has a tree was read
was-read : (table : List (Text × Text)) (log : List ReadEntry) (p : Text) (t : FileSyntax)
    → IsTree (text_read table log p) (Some t) → among p (read_paths log) ≡ true
was-read table [] p t h = absurd h
was-read table (e ∷ log) p t h =
    elim (bool_cases (bytes_eq p (path_buf_text e.path))) [
      | inl w ↦ or_left _ _ w
      | inr w ↦ or_right _ _ (was-read table log p t (rw w at h))
    ]

abbrev paths_at : Option FileSyntax → List Text
paths_at None = []
paths_at (Some t) = import_paths t

pub read-of : (table : List (Text × Text)) (log : List ReadEntry) (trees : Trees)
    → HasTrees table log trees → (p : Text) (t : FileSyntax) → trees p ≡ Some t
    → among p (read_paths log) ≡ true
read-of table log trees has p t is =
    was-read table log p t
    (subst (λ (o : Option FileSyntax). IsTree (text_read table log p) o) is (has p))

-- where only some paths have trees
module _ (some : List Text) (trees : Trees)
    (among_some : (p : Text) (t : FileSyntax) → trees p ≡ Some t → among p some ≡ true) where
  only-one : (r p : Text) → among r (p ∷ []) ≡ true → r ≡ p
  only-one r p h = elim (or_cases (bytes_eq r p) false h) [ inl w ↦ text-true r p w | inr w ↦ cc ]

  reached-of : (p : Text) → (ps : List Text) × AreJust (Reaches trees p) ps
  reached-of p =
      let c = closed trees some import_paths (p ∷ []) among_some in (
        c.0,
        record {
          once = c.1.once;
          only = λ q h. let r = c.1.only q h in
              subst (λ (z : Text). Reaches trees z q) (only-one r.0 p r.1) r.2;
          all = λ q h. c.1.all q (p, or_left _ _ (text-same p), h);
        },
      )

  hands-sees : (p q : Text) → HandsOn trees p q → Sees trees p q
  hands-sees p q (stays _) = sees_itself p
  hands-sees p q (leads _ r _ t is a rest) = by_import p r q t is (public-imported r t a) rest

  seeds-see : (p q r : Text) (o : Option FileSyntax) → trees p ≡ o → among r (p ∷ paths_at o) ≡ true
      → HandsOn trees r q → Sees trees p q
  seeds-see p q r None is h rest =
      hands-sees p q (subst (λ (z : Text). HandsOn trees z q) (only-one r p h) rest)
  seeds-see p q r (Some t) is h rest =
      elim (or_cases (bytes_eq r p) (among r (import_paths t)) h) [
        | inl w ↦ hands-sees p q (subst (λ (z : Text). HandsOn trees z q) (text-true r p w) rest)
        | inr w ↦ by_import p r q t is w rest
      ]

  sees-seeds : (p q : Text) → Sees trees p q
      → (r : Text) × (among r (p ∷ paths_at (trees p)) ≡ true) × HandsOn trees r q
  sees-seeds p q (sees_itself _) = (p, or_left _ _ (text-same p), stays p)
  sees-seeds p q (by_import _ r _ t is a rest) = (
    r,
    or_right _ _ (subst (λ (o : Option FileSyntax). among r (paths_at o) ≡ true) (sym is) a),
    rest,
  )

  seen-of : (p : Text) → (ps : List Text) × AreJust (Sees trees p) ps
  seen-of p =
      let c = closed trees some public_paths (p ∷ paths_at (trees p)) among_some in (
        c.0,
        record {
          once = c.1.once;
          only = λ q h. let r = c.1.only q h in seeds-see p q r.0 (trees p) refl r.1 r.2;
          all = λ q h. c.1.all q (sees-seeds p q h);
        },
      )

  pub lists-of : (reached : Text → List Text) × (seen : Text → List Text)
      × FilesAreListed trees reached seen
  lists-of = (
    (λ p. (reached-of p).0),
    (λ p. (seen-of p).0),
    record { reaches = λ p. (reached-of p).1; sees = λ p. (seen-of p).1 },
  )

pub have-lists : (table : List (Text × Text)) (log : List ReadEntry) → HaveLists table log
have-lists table log trees has =
    lists-of (read_paths log) trees (read-of table log trees has)
