-- A file without the imports that are told.
use Rattle.std.proofs.Common.{◌≡◌, ◌∙◌, ◌≤◌, Bool, true, false, cond, List, [], ◌∷◌, arith}
use Rattle.std.proofs.Common.{Option, Some, None, ap, filter, refl, subst, sym, fold, sum_by}
use Rattle.std.specs.Prelude.{option_map}
use Rattle.std.proofs.lemmas.List.Sums.{sum_by-cons}
use Rattle.protobuf_parse_base.specs.Multimaps.{values_under}
use Rattle.protobuf_parse_syntax.specs.Counts.{statement_count, statements_in}
use Rattle.protobuf_parse_syntax.specs.Trees.{FileSyntax, StatementSyntax, file_import, file_syntax}
use Rattle.protobuf_parse_syntax.specs.Trees.{package_behind, package_of}
use Rattle.protobuf_parse_lexer.specs.Text.{Bytes}
use Rattle.protobuf_parse_lexer.specs.declared.lexer.token.Place.{Place}
use Rattle.protobuf_parse_model.specs.Descriptors.{Text}
use Rattle.protobuf_parse_model.proofs.DeclaringFiles.{filter-alike}
use Rattle.protobuf_parse_options.specs.NamesAlike.{HasPackageName}
use Rattle.protobuf_parse_run.specs.Walks.{Trees}
use Rattle.protobuf_parse_run.proofs.Reordering.{HavePackages}
use Rattle.protobuf_parse_load.specs.Steps.{Step}
use Rattle.protobuf_parse_check.specs.declared.cuts.Cuts.{Cuts}
use Rattle.protobuf_parse_check.specs.declared.cuts.TrimmedTree.{TrimmedTree}
use Rattle.protobuf_parse_check.specs.Judging.{HasCuts, IsTrimmed, is_kept}
use Rattle.protobuf_parse_check.specs.Trimmed.{has_told, has_told_public, is_followed, told_places}
use Rattle.protobuf_parse_check.specs.Trimmed.{trimmed, trimmed_trees}

kept-is : (steps : List Step) (p : Text) (s : StatementSyntax)
    → is_kept (told_places steps p) s ≡ is_followed steps p s
kept-is steps p (file_import i) = refl
kept-is steps p _ = refl

module _ (steps : List Step) (cuts : Cuts) (has : HasCuts steps cuts) (p : Text) (t : FileSyntax)
    (new : TrimmedTree) (is : IsTrimmed (values_under cuts.places p) t new) where
  told : IsTrimmed (told_places steps p) t new
  told = subst (λ (ps : List Place). IsTrimmed ps t new) (has p) is

  pub tree-is : file_syntax new.tree ≡ trimmed steps p t
  tree-is = told.tree
      ∙ ap (λ (ss : List StatementSyntax). record { syntax = t.syntax; statements = ss })
      (filter-alike (is_kept (told_places steps p)) (is_followed steps p) (kept-is steps p)
      t.statements)

  pub loses-is : new.loses ≡ has_told steps p t
  loses-is = told.loses

  pub loses-public-is : new.loses_public ≡ has_told_public steps p t
  loses-public-is = told.loses_public

-- ** what stays

kept-package : (test : StatementSyntax → Bool) → ((s : StatementSyntax) (o : Option Bytes)
    → test s ≡ false → package_behind o s ≡ o) → (ss : List StatementSyntax) (o : Option Bytes)
    → fold package_behind o (filter test ss) ≡ fold package_behind o ss
kept-package test none [] o = refl
kept-package test none (s ∷ ss) o = at (test s) refl (kept-package test none ss)
  where
    at : (b : Bool) → test s ≡ b
        → ((z : Option Bytes) → fold package_behind z (filter test ss)
        ≡ fold package_behind z ss)
        → fold package_behind o (cond b (s ∷ filter test ss) (filter test ss))
        ≡ fold package_behind (package_behind o s) ss
    at true h more = more (package_behind o s)
    at false h more = more o
        ∙ ap (λ (z : Option Bytes). fold package_behind z ss) (sym (none s o h))

no-package : (steps : List Step) (p : Text) (s : StatementSyntax) (o : Option Bytes)
    → is_followed steps p s ≡ false → package_behind o s ≡ o
no-package steps p (file_import i) o h = refl
no-package steps p _ o h = cc

package-same : (steps : List Step) (p : Text) (t : FileSyntax)
    → package_of (trimmed steps p t) ≡ package_of t
package-same steps p t =
    kept-package (is_followed steps p) (no-package steps p) t.statements None

pub packages-trimmed : (steps : List Step) (trees : Trees) → HavePackages trees
    → HavePackages (trimmed_trees steps trees)
packages-trimmed steps trees have q t is = at (trees q) refl is
  where
    at : (o : Option FileSyntax) → trees q ≡ o → option_map (trimmed steps q) o ≡ Some t
        → HasPackageName t
    at None h k = cc
    at (Some u) h k =
        let same : trimmed steps q u ≡ t = some_is (trimmed steps q u) t k in
        subst HasPackageName same
        (λ name e. have q u h name (sym (package-same steps q u) ∙ e))
      where
        some_is : (a b : FileSyntax) → Some a ≡ Some b → a ≡ b
        some_is a b h = cc

-- no more statements are left
kept-few : (test : StatementSyntax → Bool) (ss : List StatementSyntax)
    → sum_by statement_count (filter test ss) ≤ sum_by statement_count ss
kept-few test [] = omega arith
kept-few test (s ∷ ss) = at (test s) (kept-few test ss)
  where
    at : (b : Bool) → sum_by statement_count (filter test ss) ≤ sum_by statement_count ss
        → sum_by statement_count (cond b (s ∷ filter test ss) (filter test ss))
        ≤ sum_by statement_count (s ∷ ss)
    at true more =
        omega (
          arith,
          more,
          sum_by-cons statement_count s (filter test ss),
          sum_by-cons statement_count s ss,
        )
    at false more = omega (arith, more, sum_by-cons statement_count s ss)

pub trimmed-few : (places : List Place) (t : FileSyntax) (new : TrimmedTree)
    → IsTrimmed places t new → statements_in t ≤ 2147483647
    → statements_in (file_syntax new.tree) ≤ 2147483647
trimmed-few places t new is few =
    let less = kept-few (is_kept places) t.statements in
    let same : statements_in (file_syntax new.tree)
    ≡ sum_by statement_count (filter (is_kept places) t.statements) =
    ap statements_in is.tree in
    omega (arith, less, same, few)
