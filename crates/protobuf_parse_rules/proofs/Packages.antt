-- The fronts of a package, part by part.
use Rattle.std.proofs.Common.{◌≡◌, ℕ, ◌+◌, ◌<◌, List, [], ◌∷◌, ◌++◌, length, get_or, drop, sym, ap}
use Rattle.std.proofs.Common.{◌∙◌, append_assoc}
use Rattle.std.proofs.lemmas.List.{at_drop_more}
use Rattle.protobuf_parse_model.specs.Descriptors.{Text}
use Rattle.protobuf_parse_wire.specs.Declarations.{name_within}
use Rattle.protobuf_parse_rules.specs.Names.{Named, named_in, packages_named}
use Rattle.protobuf_parse_rules.specs.declared.kind.NamedKind.TheVariants as kind

-- one part more
pub fronts_turn : (file scope inside : Text) (parts : List Text) (n : ℕ) (part : Text)
    (old new all : List Named) → (n < length parts) × (part ≡ get_or parts n part)
    → new ≡ old ++ named_in file scope kind.Package part ∷ [] → inside ≡ name_within scope part
    → old ++ packages_named file scope (drop n parts) ≡ all
    → new ++ packages_named file inside (drop (n + 1) parts) ≡ all
fronts_turn file scope inside parts n part old new all h grown named whole =
    let rest = drop (n + 1) parts in
    let x : Named = named_in file scope kind.Package part in
    ap (λ (ns : List Named). ns ++ packages_named file inside rest) grown
    ∙ ap (λ (s : Text). (old ++ x ∷ []) ++ packages_named file s rest) named
    ∙ append_assoc old (x ∷ []) (packages_named file (name_within scope part) rest)
    ∙ ap (λ (p : Text). old ++ packages_named file scope (p ∷ rest)) h.1
    ∙ sym (ap (λ (ns : List Named). old ++ ns)
    (at_drop_more (packages_named file scope) parts n part h.0))
    ∙ whole
