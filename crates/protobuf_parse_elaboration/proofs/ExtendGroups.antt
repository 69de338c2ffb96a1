-- The groups of an `extend` in which nothing is wrong: no map stands there, so they tell all.
use Rattle.std.proofs.Common.{◌≡◌, Bool, true, false, List, [], ◌∷◌, ◌++◌, flat_map, refl, ap}
use Rattle.protobuf_parse_syntax.specs.Trees.{TypeSyntax, scalar, map_of, named, FieldSyntax}
use Rattle.protobuf_parse_syntax.specs.Trees.{FieldStatementSyntax, field, group}
use Rattle.protobuf_parse_model.specs.declared.error.ElabErrorKind.TheVariants.{DanglingTypeName}
use Rattle.protobuf_parse_model.specs.Duplicates.{fault_when}
use Rattle.protobuf_parse_model.specs.Statements.{is_map, groups}
use Rattle.protobuf_parse_model.specs.Declarations.{generated_by}
use Rattle.protobuf_parse_model.specs.Environment.{Environment}
use Rattle.protobuf_parse_elaboration.specs.Fields.{map_faults, field_faults, extension_faults}
use Rattle.protobuf_parse_elaboration.specs.Messages.{entries_of, messages_behind}
use Rattle.protobuf_parse_model.specs.Faults.{placed}
use Rattle.protobuf_parse_elaboration.proofs.Gathering.{none_placed}
use Rattle.protobuf_parse_elaboration.proofs.EachOne.{no-left, no-right}

-- no fault, no map
is-no-map : (f : FieldSyntax) → map_faults f ≡ [] → is_map f.type_ ≡ false
is-no-map f h = from (is_map f.type_) h
  where
    from : (b : Bool) → fault_when b DanglingTypeName f.name ≡ [] → b ≡ false
    from false h = refl
    from true h = absurd cc

-- behind a field that is no map stands no message
pub generates-none : (env : Environment) (f : FieldSyntax) → is_map f.type_ ≡ false
    → generated_by env.scope (field f) ≡ []
generates-none env f h = rw h refl

pub stands-alone : (env : Environment) (f : FieldSyntax) → is_map f.type_ ≡ false
    → messages_behind env (field f) ≡ []
stands-alone env f h = of f.type_ h
  where
    of : (t : TypeSyntax) → is_map t ≡ false → entries_of env f.name t ≡ []
    of (map_of key value) h = absurd cc
    of (scalar s) h = refl
    of (named n) h = refl

-- where nothing is wrong in an `extend` no map stands in it, so that its groups tell all
pub groups-tell : {A : Type 0} (env : Environment) (tell : FieldStatementSyntax → List A)
    → ((f : FieldSyntax) → is_map f.type_ ≡ false → tell (field f) ≡ [])
    → (ss : List FieldStatementSyntax) → flat_map (extension_faults env) ss ≡ []
    → flat_map tell (flat_map groups ss) ≡ flat_map tell ss
groups-tell env tell none [] h = refl
groups-tell env tell none (field f ∷ ss) h =
    let own = no-left (extension_faults env (field f)) (flat_map (extension_faults env) ss) h in
    let maps = none_placed f.place (map_faults f)
    (no-left (placed f.place (map_faults f)) (field_faults env f) own) in
    rw (none f (is-no-map f maps))
    (groups-tell env tell none ss
    (no-right (extension_faults env (field f)) (flat_map (extension_faults env) ss) h))
groups-tell env tell none (group at label name number fields ∷ ss) h =
    let s = group at label name number fields in
    ap (λ rest. tell s ++ rest)
    (groups-tell env tell none ss
    (no-right (extension_faults env s) (flat_map (extension_faults env) ss) h))
