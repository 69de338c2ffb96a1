-- What the laws on names of types know of kinds and of faults, construct by construct.
use Rattle.std.proofs.Common.{◌≡◌, true, false, List, [], ◌∷◌}
use Rattle.std.proofs.Common.{Option, Some, None, IsSome, option_map}
use Rattle.std.proofs.Common.{refl, ◌∙◌}
use Rattle.protobuf_parse_syntax.specs.Trees.{scalar}
use Rattle.protobuf_parse_syntax.specs.Trees.{FieldStatementSyntax, field, group}
use Rattle.protobuf_parse_syntax.specs.declared.tree.field.Scalar.{Scalar}
use Rattle.protobuf_parse_syntax.specs.declared.tree.field.Scalar.TheVariants as word
use Rattle.protobuf_parse_model.specs.declared.descriptor.FieldType.TheVariants as kind
use Rattle.protobuf_parse_model.specs.Descriptors.{Text}
use Rattle.protobuf_parse_model.specs.Faults.{Wrong, placed}
use Rattle.protobuf_parse_model.specs.Declarations.{DeclaredType, MessageOrEnum}
use Rattle.protobuf_parse_model.specs.Declarations.{a_message, an_enum}
use Rattle.protobuf_parse_model.specs.Environment.{Environment}
use Rattle.protobuf_parse_model.specs.Environment.{missing}
use Rattle.protobuf_parse_model.specs.Descriptors.{kind_of_scalar}
use Rattle.protobuf_parse_model.specs.Declarations.{kind_of_type}
use Rattle.protobuf_parse_elaboration.specs.Fields.{type_of}
use Rattle.protobuf_parse_elaboration.specs.Fields.{type_faults}
use Rattle.protobuf_parse_elaboration.specs.Fields.{faults_of_options, FieldOwner}
use Rattle.protobuf_parse_elaboration.specs.Fields.{field_statement_of, field_faults}
use Rattle.protobuf_parse_elaboration.specs.Fields.{map_faults}
use Rattle.protobuf_parse_elaboration.specs.Fields.{field_statement_faults, extension_faults}
use Rattle.protobuf_parse_elaboration.specs.NamedTypes.{has_name}
use Rattle.protobuf_parse_elaboration.proofs.Gathering.{none_placed}
use Rattle.protobuf_parse_elaboration.proofs.EachOne.{no-left, no-right}

-- a scalar has no name
pub scalar-plain : (s : Scalar) → false ≡ has_name (kind_of_scalar s)
scalar-plain word.Int32 = refl
scalar-plain _ = refl

-- a message and an enum have one
pub kind-named : (k : MessageOrEnum) → true ≡ has_name (kind_of_type k)
kind-named a_message = refl
kind-named an_enum = refl

-- the faults in the type of a field; the type of a group is its own
abbrev pub own_faults : Environment → FieldStatementSyntax → List Wrong
own_faults env (field f) = type_faults env f.name f.type_
own_faults env (group at label name number fields) = []

-- they are among those of the field
pub own-none : (env : Environment) (s : FieldStatementSyntax) → field_statement_faults env s ≡ []
    → own_faults env s ≡ []
own-none env (field f) h =
    none_placed f.place (type_faults env f.name f.type_)
    (no-left (placed f.place (type_faults env f.name f.type_))
    (faults_of_options env (type_of env f.name f.type_).kind f.name f.options) h)
own-none env (group at label name number fields) h = refl

-- a field without faults in an `extend` has none in a message
pub extension-none : (env : Environment) (s : FieldStatementSyntax) → extension_faults env s ≡ []
    → field_statement_faults env s ≡ []
extension-none env (field f) h = no-right (placed f.place (map_faults f)) (field_faults env f) h
extension-none env (group at label name number fields) h = h

-- what a field extends is what its owner says
pub extendee-is : (env : Environment) (owner : FieldOwner) (s : FieldStatementSyntax)
    → (field_statement_of env owner s).extendee ≡ owner.extendee
extendee-is env owner (field f) = refl
extendee-is env owner (group at label name number fields) = refl

-- a name without faults has a full name
pub full-stands : (n : Text) (o : Option DeclaredType) → missing n o ≡ []
    → IsSome (option_map (λ (d : DeclaredType). d.name) o)
full-stands n None h = absurd cc
full-stands n (Some d) h = refl

-- only of a message is the kind so
pub message-kind : (k : MessageOrEnum) → kind_of_type k ≡ kind.Message → k ≡ a_message
message-kind a_message e = refl
message-kind an_enum e = absurd cc
