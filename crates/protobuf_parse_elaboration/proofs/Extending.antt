-- An `extend` with no fields, and one with some.
use Rattle.std.proofs.Common.{◌≡◌, ◌==◌, List, [], ◌∷◌, length, map, refl, true, false, arith}
use Rattle.std.proofs.lemmas.Bool.{eqb-true}
use Rattle.protobuf_parse_syntax.specs.Trees.{FieldStatementSyntax}
use Rattle.protobuf_parse_model.specs.Descriptors.{Text}
use Rattle.protobuf_parse_model.specs.Environment.{Environment, type_missing}
use Rattle.protobuf_parse_elaboration.specs.Messages.{extendee_faults}

pub no_items : {X : Type 0} (xs : List X) → (length xs == 0) ≡ true → xs ≡ []
no_items [] e = refl
no_items (x ∷ xs) e = absurd (omega (arith, eqb-true (length (x ∷ xs)) 0 e))

-- where something extends it, what is wrong with the name is wrong
pub some_extend : {X : Type 0} (view : X → FieldStatementSyntax) (env : Environment)
    (extendee : Text) (xs : List X) → (length xs == 0) ≡ false
    → extendee_faults env extendee (map view xs) ≡ type_missing env extendee
some_extend view env extendee [] some = absurd cc
some_extend view env extendee (x ∷ xs) some = refl
