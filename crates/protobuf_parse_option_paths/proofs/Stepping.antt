-- Steps that go on behind others.
use Rattle.std.proofs.Common.{◌≡◌, List, [], ◌∷◌, ◌++◌, Option, Some, None, refl, sym, ap, ◌∙◌}
use Rattle.std.proofs.Common.{option_map, append_assoc}
use Rattle.std.specs.List.{IsLastAndRest}
use Rattle.protobuf_parse_option_paths.specs.Names.{step_and}
use Rattle.protobuf_parse_option_paths.specs.Paths.{ends_repeated}
use Rattle.protobuf_parse_option_paths.specs.declared.names.Step.{Step}

-- such steps, if there are any
abbrev pub behind : List Step → Option (List Step) → Option (List Step)
behind xs steps = option_map (λ (ys : List Step). xs ++ ys) steps

-- none stand before the first
pub behind-none : (o : Option (List Step)) → o ≡ behind [] o
behind-none None = refl
behind-none (Some ys) = refl

-- one of them is among those before
pub behind-one : (xs : List Step) (s : Step) (o : Option (List Step))
    → behind xs (step_and s o) ≡ behind (xs ++ s ∷ []) o
behind-one xs s None = refl
behind-one xs s (Some ys) = ap Some (sym (append_assoc xs (s ∷ []) ys))

ends : (rest : List Step) (s : Step) → ends_repeated (rest ++ s ∷ []) ≡ s.repeated
ends [] s = refl
ends (t ∷ []) s = refl
ends (t ∷ u ∷ rest) s = ends (u ∷ rest) s

-- the last one says whether steps end so
pub ends_with : (ss : List Step) (s : Step) (rest : List Step) → IsLastAndRest ss s rest
    → ends_repeated ss ≡ s.repeated
ends_with ss s rest apart = ap ends_repeated apart.0 ∙ ends rest s
