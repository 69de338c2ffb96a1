-- Which files declare a full name, by the table of declarations.
use Rattle.std.proofs.Common.{◌≡◌, ◌∙◌, ℕ, Bool, cond, List, [], ◌∷◌, ◌++◌}
use Rattle.std.proofs.Common.{Option, Some, None, filter, flat_map, refl, ap, arith}
use Rattle.std.proofs.Common.{append-nil, slice_get}
use Rattle.std.specs.Prelude.{nat_lt, option_to_list}
use Rattle.std.specs.List.Sorted.{IsStrictlyIncreasing}
use Rattle.protobuf_parse_syntax.specs.Trees.{FileSyntax}
use Rattle.protobuf_parse_model.specs.declared.scope.seen.Declarations.{Declarations}
use Rattle.protobuf_parse_model.specs.Descriptors.{Text}
use Rattle.protobuf_parse_model.specs.Linking.{declares_name, full_names, occurrences}
use Rattle.protobuf_parse_model.specs.SeenFiles.{declared_as}
use Rattle.protobuf_parse_model.specs.Tables.{TableTells}
use Rattle.protobuf_parse_model.specs.TableParts.{times}
use Rattle.protobuf_parse_model.proofs.Links.{times_over}

-- whether the file with this number declares the name, by the table
abbrev pub is_there : Bool → Declarations → Text → ℕ → Bool
is_there extension table name n = nat_lt 0 (times extension (n ∷ []) (declared_as table name))

alone : (n : ℕ) → IsStrictlyIncreasing (n ∷ [])
alone n k lt = absurd (omega (arith, lt))

one-file : (extension : Bool) (name : Text) (o : Option FileSyntax)
    → nat_lt 0 (occurrences name (flat_map (full_names extension) (option_to_list o ++ [])))
    ≡ declares_name extension name o
one-file extension name None = refl
one-file extension name (Some t) =
    ap (λ ns. nat_lt 0 (occurrences name ns)) (append-nil (full_names extension t))

there-is : (extension : Bool) (table : Declarations) (files : List FileSyntax)
    → TableTells table files → (name : Text) (n : ℕ)
    → is_there extension table name n ≡ declares_name extension name (slice_get files n)
there-is extension table files tells name n =
    ap (nat_lt 0) (times_over table files tells (n ∷ []) (alone n) extension name)
    ∙ one-file extension name (slice_get files n)

-- tests that say the same leave the same
pub filter-alike : {A : Type 0} (f g : A → Bool) → ((x : A) → f x ≡ g x) → (xs : List A)
    → filter f xs ≡ filter g xs
filter-alike f g same [] = refl
filter-alike f g same (x ∷ xs) =
    ap (λ ys. cond (f x) (x ∷ ys) ys) (filter-alike f g same xs)
    ∙ ap (λ b. cond b (x ∷ filter g xs) (filter g xs)) (same x)

-- those of the numbers are those of the files that declare it
pub there-are : (extension : Bool) (table : Declarations) (files : List FileSyntax)
    → TableTells table files → (name : Text) (numbers : List ℕ)
    → filter (is_there extension table name) numbers
    ≡ filter (λ (n : ℕ). declares_name extension name (slice_get files n)) numbers
there-are extension table files tells name numbers =
    filter-alike (is_there extension table name)
    (λ (n : ℕ). declares_name extension name (slice_get files n))
    (there-is extension table files tells name) numbers
