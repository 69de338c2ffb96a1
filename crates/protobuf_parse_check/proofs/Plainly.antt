-- Where nothing is left out.
use Rattle.std.proofs.Common.{◌≡◌, ◌∙◌, Bool, true, false, not, ◌&&◌, ◌||◌, List, [], ◌∷◌, ap, cond}
use Rattle.std.proofs.Common.{filter, length, map, None, Option, refl, subst, sym}
use Rattle.std.specs.Prelude.{option_map}
use Rattle.std.specs.Bool.{◌==◌}
use Rattle.std.specs.List.{list_any}
use Rattle.std.proofs.lemmas.Bool.{eqb-true}
use Rattle.std.proofs.lemmas.List.{nil_from_length}
use Rattle.protobuf_parse_lexer.specs.declared.lexer.token.Place.{Place}
use Rattle.protobuf_parse_syntax.specs.Dependencies.{imports, is_public}
use Rattle.protobuf_parse_syntax.specs.Trees.{StatementSyntax, file_import, file_syntax}
use Rattle.protobuf_parse_syntax.specs.declared.tree.FileTree.{FileTree}
use Rattle.protobuf_parse_model.specs.Faults.{Fault, fault_view}
use Rattle.protobuf_parse_model.specs.declared.error.ElabError.{ElabError}
use Rattle.protobuf_parse_check.specs.Judging.{IsTrimmed, is_hidden_by, is_kept, is_placed}
use Rattle.protobuf_parse_check.specs.Judging.{is_placed_public, shown_by}
use Rattle.protobuf_parse_check.specs.Reports.{is_of_duplicate}

pub nothing-there : {A : Type 0} (xs : List A) → (length xs == 0) ≡ true → xs ≡ []
nothing-there xs h = nil_from_length xs (eqb-true (length xs) 0 h)

pub all-kept : {A : Type 0} (test : A → Bool) → ((x : A) → test x ≡ true) → (xs : List A)
    → filter test xs ≡ xs
all-kept test all [] = refl
all-kept test all (x ∷ xs) =
    ap (λ (b : Bool). cond b (x ∷ filter test xs) (filter test xs)) (all x)
    ∙ ap (λ ys. x ∷ ys) (all-kept test all xs)

none-any : {A : Type 0} (test : A → Bool) → ((x : A) → test x ≡ false) → (xs : List A)
    → list_any test xs ≡ false
none-any test none [] = refl
none-any test none (x ∷ xs) =
    ap (λ (b : Bool). b || list_any test xs) (none x) ∙ none-any test none xs

keeps-all : (s : StatementSyntax) → is_kept [] s ≡ true
keeps-all (file_import i) = refl
keeps-all _ = refl

and_false : (b : Bool) → (b && false) ≡ false
and_false true = refl
and_false false = refl

-- a file none of whose imports is told
pub trimmed-nothing : (places : List Place) (t : FileTree) → places ≡ []
    → IsTrimmed places (file_syntax t)
    (record { tree = t; loses = false; loses_public = false })
trimmed-nothing places t is =
    let ss = (file_syntax t).statements in
    subst (λ (ps : List Place). IsTrimmed ps (file_syntax t)
    (record { tree = t; loses = false; loses_public = false })) (sym is)
    (record {
      tree = ap (λ (xs : List StatementSyntax). record { syntax = t.syntax; statements = xs })
          (sym (all-kept (is_kept []) keeps-all ss));
      loses = sym (none-any (is_placed []) (λ i. refl) (imports ss));
      loses_public = sym (none-any (is_placed_public [])
          (λ i. and_false (is_public i.vis))
          (imports ss));
    })

-- where no name may be missing and none is told
pub shows-all : (misses : Bool) (repeats : List ElabError) (fs : List Fault)
    → misses ≡ false → repeats ≡ [] → fs ≡ shown_by misses (map fault_view repeats) fs
shows-all true repeats fs h is = cc
shows-all false repeats fs h is =
    sym (all-kept (λ (f : Fault). not (is_hidden_by false (map fault_view repeats) f)) shows fs)
  where
    shows : (f : Fault) → not (is_hidden_by false (map fault_view repeats) f) ≡ true
    shows f =
        ap (λ (rs : List ElabError). not (is_hidden_by false (map fault_view rs) f)) is
        ∙ ap not (and_false (is_of_duplicate f.wrong.kind))

-- what isn't found isn't there
pub not-there-of : {A B : Type 0} (f : A → B) (o : Option A) (p : Option B)
    → option_map f o ≡ p → o ≡ None → p ≡ None
not-there-of f o p is none = sym is ∙ ap (option_map f) none

-- what is shown, by other values
pub shown-as : (fs rest : List Fault) (m n : Bool) (es ds : List ElabError)
    → rest ≡ shown_by m (map fault_view es) fs → es ≡ ds → m ≡ n
    → rest ≡ shown_by n (map fault_view ds) fs
shown-as fs rest m n es ds is same alike =
    is ∙ ap (λ (xs : List ElabError). shown_by m (map fault_view xs) fs) same
    ∙ ap (λ (b : Bool). shown_by b (map fault_view ds) fs) alike
