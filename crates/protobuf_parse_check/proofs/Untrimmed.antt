-- Files none of whose imports is told: they stay as they are.
use Rattle.std.proofs.Common.{◌≡◌, ◌∙◌, Bool, true, false, not, ◌&&◌, ◌||◌, List, [], ◌∷◌, Option}
use Rattle.std.proofs.Common.{None, Some, ap, refl, sym}
use Rattle.std.proofs.Math.Path.{fun_ext}
use Rattle.std.specs.List.{list_any}
use Rattle.std.specs.Prelude.{option_map}
use Rattle.protobuf_parse_lexer.specs.declared.lexer.token.Place.{Place}
use Rattle.protobuf_parse_syntax.specs.Dependencies.{imports, is_public}
use Rattle.protobuf_parse_syntax.specs.Trees.{FileSyntax, ImportSyntax, StatementSyntax}
use Rattle.protobuf_parse_syntax.specs.Trees.{file_import}
use Rattle.protobuf_parse_model.specs.Descriptors.{Text}
use Rattle.protobuf_parse_run.specs.Walks.{Trees}
use Rattle.protobuf_parse_run.proofs.Keeping.{false_true}
use Rattle.protobuf_parse_load.specs.Laws.{is_told as tells}
use Rattle.protobuf_parse_load.specs.Steps.{Step, closed, held, opened, told}
use Rattle.protobuf_parse_check.specs.Laws.{QuietFilesAreWhole}
use Rattle.protobuf_parse_check.specs.Trimmed.{has_told, has_told_public, is_followed, is_told}
use Rattle.protobuf_parse_check.specs.Trimmed.{same_place, told_places, trimmed, trimmed_trees}
use Rattle.protobuf_parse_check.proofs.Plainly.{all-kept}

none-passes : {A : Type 0} (test : A → Bool) → ((x : A) → test x ≡ false) → (xs : List A)
    → list_any test xs ≡ false
none-passes test none [] = refl
none-passes test none (x ∷ xs) =
    ap (λ (b : Bool). b || list_any test xs) (none x) ∙ none-passes test none xs

and_false : (b : Bool) → (b && false) ≡ false
and_false true = refl
and_false false = refl

module _ (steps : List Step) (p : Text) (none : told_places steps p ≡ []) where
  never : (place : Place) → is_told steps p place ≡ false
  never place = ap (list_any (same_place place)) none

  follows : (s : StatementSyntax) → is_followed steps p s ≡ true
  follows (file_import i) = ap not (never i.place)
  follows _ = refl

  pub same-tree : (t : FileSyntax) → trimmed steps p t ≡ t
  same-tree t =
      let with_these : List StatementSyntax → FileSyntax =
      λ ss. record { syntax = t.syntax; statements = ss } in
      ap with_these (all-kept (is_followed steps p) follows t.statements)

  pub loses-none : (t : FileSyntax) → has_told steps p t ≡ false
  loses-none t =
      none-passes (λ (i : ImportSyntax). is_told steps p i.place) (λ i. never i.place)
      (imports t.statements)

  pub loses-public-none : (t : FileSyntax) → has_told_public steps p t ≡ false
  loses-public-none t =
      none-passes (λ (i : ImportSyntax). is_public i.vis && is_told steps p i.place)
      (λ i. ap (λ (b : Bool). is_public i.vis && b) (never i.place) ∙ and_false (is_public i.vis))
      (imports t.statements)

  pub tree-at : (trees : Trees) → trimmed_trees steps trees p ≡ trees p
  tree-at trees = at (trees p) refl
    where
      at : (o : Option FileSyntax) → trees p ≡ o → trimmed_trees steps trees p ≡ trees p
      at None is =
          ap (option_map (trimmed steps p)) is ∙ sym is
      at (Some t) is =
          ap (option_map (trimmed steps p)) is ∙ ap Some (same-tree t) ∙ sym is

-- where no step tells something no import is told
pub untold-places : (steps : List Step) (p : Text) → list_any tells steps ≡ false
    → told_places steps p ≡ []
untold-places [] p h = refl
untold-places (told by q why ∷ steps) p h = absurd (false_true (sym h))
untold-places (opened by q ∷ steps) p h = untold-places steps p h
untold-places (closed q n ∷ steps) p h = untold-places steps p h
untold-places (held n q r ∷ steps) p h = untold-places steps p h

pub quiet-files-are-whole : QuietFilesAreWhole
quiet-files-are-whole steps h p t = same-tree steps p (untold-places steps p h) t

-- and all trees are whole
pub untold-trees : (steps : List Step) (trees : Trees) → list_any tells steps ≡ false
    → trimmed_trees steps trees ≡ trees
untold-trees steps trees h =
    fun_ext (λ (p : Text). tree-at steps p (untold-places steps p h) trees)
