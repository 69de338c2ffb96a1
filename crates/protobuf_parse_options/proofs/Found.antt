-- The first of a list of lists, as the lists are gone through.
use Rattle.std.proofs.Common.{◌≡◌, ℕ, ◌+◌, ◌<◌, true, false, List, ◌∷◌, ◌++◌, map, drop}
use Rattle.std.proofs.Common.{length, get_or, Option, Some, None, option_map, refl, ap, ◌∙◌}
use Rattle.std.proofs.Common.{bytes_eq, is_some, drop-cons, add-one}
use Rattle.std.specs.List.{find}
use Rattle.std.specs.Option.{option_or}
use Rattle.std.proofs.lemmas.List.Folds.{find-append}
use Rattle.protobuf_parse_model.specs.Descriptors.{Text, EnumValueDescriptor}
use Rattle.protobuf_parse_options.specs.Views.{number_among}

-- the rest of a list that is mapped
pub mapped_rest : {X Y : Type 0} (f : X → Y) (xs : List X) (i : ℕ) (x : X) → i < length xs → x
    ≡ get_or xs i x → map f (drop i xs) ≡ f x ∷ map f (drop (i + 1) xs)
mapped_rest f xs i x lt is = rw (add-one, drop-cons xs i x lt, ← is) refl

number_first : (o p : Option EnumValueDescriptor) → option_map
    (λ (v : EnumValueDescriptor). v.number) (option_or o p) ≡ option_or
    (option_map (λ (v : EnumValueDescriptor). v.number) o)
    (option_map (λ (v : EnumValueDescriptor). v.number) p)
number_first None p = refl
number_first (Some v) p = refl

pub number_split : (name : Text) (xs ys : List EnumValueDescriptor) → number_among (xs ++ ys) name
    ≡ option_or (number_among xs name) (number_among ys name)
number_split name xs ys = ap (option_map (λ (v : EnumValueDescriptor). v.number))
    (find-append (λ (v : EnumValueDescriptor). bytes_eq v.name name) xs ys) ∙ number_first
    (find (λ (v : EnumValueDescriptor). bytes_eq v.name name) xs)
    (find (λ (v : EnumValueDescriptor). bytes_eq v.name name) ys)

pub first_some : {A : Type 0} (o p : Option A) → is_some o ≡ true → o ≡ option_or o p
first_some None p e = absurd cc
first_some (Some x) p e = refl

pub first_none : {A : Type 0} (o p : Option A) → is_some o ≡ false → option_or o p ≡ p
first_none None p e = refl
first_none (Some x) p e = absurd cc

-- ---- extensions
