-- What is found of imports, statement by statement.
use Rattle.std.proofs.Common.{◌≡◌, ℕ, ◌+◌, ◌≤◌, Bool, List, [], ◌∷◌, ◌++◌, length, refl, sym, ap}
use Rattle.std.proofs.Common.{◌∙◌, append_assoc, append-nil, arith, string_bytes}
use Rattle.std.proofs.lemmas.Grind.{flat_map-append}
use Rattle.std.proofs.lemmas.List.{map-append, length-map, length-append}
use Rattle.protobuf_parse_syntax.specs.Dependencies.{imported, imports, is_public, is_weak}
use Rattle.protobuf_parse_syntax.specs.Dependencies.{position_if, positions, FileImports}
use Rattle.protobuf_parse_syntax.specs.Dependencies.{imports_of, dependencies_of, dependencies_view}
use Rattle.protobuf_parse_syntax.specs.ImportSteps.{with_import, with_statement}
use Rattle.protobuf_parse_syntax.specs.Trees.{ImportSyntax, StatementSyntax, file_import}
use Rattle.protobuf_parse_syntax.specs.Trees.{file_package, file_option, file_message, file_enum}
use Rattle.protobuf_parse_syntax.specs.Trees.{file_extend, file_service}
use Rattle.protobuf_parse_syntax.specs.declared.dependencies.Dependencies.{Dependencies}
use Rattle.protobuf_parse_syntax.specs.declared.tree.ImportVis.{ImportVis}

-- ---- one statement more

positions-more : (is_so : ImportVis → Bool) (n : ℕ) (is : List ImportSyntax) (i : ImportSyntax)
    → positions is_so n (is ++ i ∷ []) ≡ positions is_so n is
    ++ position_if (is_so i.vis) (n + length is)
positions-more is_so n [] i =
    let same : n ≡ n + 0 = omega arith in
    append-nil (position_if (is_so i.vis) n) ∙ ap (position_if (is_so i.vis)) same
positions-more is_so n (j ∷ is) i =
    let same : n + 1 + length is ≡ n + length (j ∷ is) = omega arith in
    ap (λ ps. position_if (is_so j.vis) n ++ ps)
    (positions-more is_so (n + 1) is i
    ∙ ap (λ m. positions is_so (n + 1) is ++ position_if (is_so i.vis) m) same)
    ∙ sym (append_assoc (position_if (is_so j.vis) n) (positions is_so (n + 1) is)
    (position_if (is_so i.vis) (n + length (j ∷ is))))

positions-all : (is_so : ImportVis → Bool) (is : List ImportSyntax) (i : ImportSyntax)
    → positions is_so 0 (is ++ i ∷ []) ≡ positions is_so 0 is
    ++ position_if (is_so i.vis) (length (imports_of is).paths)
positions-all is_so is i =
    let many : 0 + length is ≡ length (imports_of is).paths =
    omega (arith, length-map is (λ (j : ImportSyntax). j.path)) in
    positions-more is_so 0 is i ∙ ap (λ m. positions is_so 0 is ++ position_if (is_so i.vis) m) many

imports_of-more : (is : List ImportSyntax) (i : ImportSyntax)
    → imports_of (is ++ i ∷ []) ≡ with_import (imports_of is) i
imports_of-more is i = λ k. record {
  paths = map-append (λ (j : ImportSyntax). j.path) is (i ∷ []) k;
  public = positions-all is_public is i k;
  weak = positions-all is_weak is i k;
}

imports-other : (ss : List StatementSyntax) (s : StatementSyntax) → imported s ≡ []
    → imports (ss ++ s ∷ []) ≡ imports ss
imports-other ss s none = flat_map-append imported ss (s ∷ [])
    ∙ (ap (λ is. imports ss ++ (is ++ [])) none ∙ append-nil (imports ss))

pub dependencies-more : (ss : List StatementSyntax) (s : StatementSyntax)
    → dependencies_of (ss ++ s ∷ []) ≡ with_statement (dependencies_of ss) s
unfolding dependencies_of
dependencies-more ss (file_import i) =
    ap imports_of (flat_map-append imported ss (file_import i ∷ []))
    ∙ imports_of-more (imports ss) i
dependencies-more ss (file_package p) = ap imports_of (imports-other ss (file_package p) refl)
dependencies-more ss (file_option o) = ap imports_of (imports-other ss (file_option o) refl)
dependencies-more ss (file_message m) = ap imports_of (imports-other ss (file_message m) refl)
dependencies-more ss (file_enum e) = ap imports_of (imports-other ss (file_enum e) refl)
dependencies-more ss (file_extend e) = ap imports_of (imports-other ss (file_extend e) refl)
dependencies-more ss (file_service s) = ap imports_of (imports-other ss (file_service s) refl)

-- ---- no more imports than statements

imported-one : (s : StatementSyntax) → length (imported s) ≤ 1
imported-one (file_import i) = omega arith
imported-one (file_package p) = omega arith
imported-one (file_option o) = omega arith
imported-one (file_message m) = omega arith
imported-one (file_enum e) = omega arith
imported-one (file_extend e) = omega arith
imported-one (file_service s) = omega arith

imports-few : (ss : List StatementSyntax) → length (imports ss) ≤ length ss
imports-few [] = omega arith
imports-few (s ∷ ss) =
    omega (arith, length-append (imported s) (imports ss), imported-one s, imports-few ss)

pub dependencies-few : (d : Dependencies) (ss : List StatementSyntax)
    → dependencies_view d ≡ dependencies_of ss → length d.dependency.items ≤ length ss
unfolding dependencies_of
dependencies-few d ss is =
    let same = ap (λ (f : FileImports). length f.paths) is in
    omega (
      arith,
      same,
      length-map d.dependency.items string_bytes,
      length-map (imports ss) (λ (j : ImportSyntax). j.path),
      imports-few ss,
    )
