-- In a file in which nothing is wrong no map stands in an `extend`.
use Rattle.std.proofs.Common.{◌≡◌, Bool, true, false, List, [], ◌∷◌, ◌++◌, flat_map, refl}
use Rattle.std.specs.List.{AllByRecursion}
use Rattle.protobuf_parse_lexer.specs.declared.lexer.token.Place.{Place}
use Rattle.protobuf_parse_syntax.specs.Trees.{ExtendSyntax, FieldStatementSyntax, FileSyntax}
use Rattle.protobuf_parse_syntax.specs.Trees.{MessageStatementList, MessageStatementSyntax}
use Rattle.protobuf_parse_syntax.specs.Trees.{StatementSyntax, field, file_extend, file_message}
use Rattle.protobuf_parse_syntax.specs.Trees.{group, message_extend, message_message}
use Rattle.protobuf_parse_syntax.specs.Trees.{message_statements, more_statements, no_statements}
use Rattle.protobuf_parse_model.specs.Descriptors.{Text}
use Rattle.protobuf_parse_model.specs.Duplicates.{fault_when}
use Rattle.protobuf_parse_model.specs.Environment.{Environment, env_inside}
use Rattle.protobuf_parse_model.specs.Faults.{placed}
use Rattle.protobuf_parse_model.specs.Statements.{is_map}
use Rattle.protobuf_parse_model.specs.declared.error.ElabErrorKind.TheVariants.{DanglingTypeName}
use Rattle.protobuf_parse_elaboration.specs.Fields.{extension_faults}
use Rattle.protobuf_parse_elaboration.specs.FileDescriptor.{file_faults, file_faults_of}
use Rattle.protobuf_parse_elaboration.specs.Messages.{extend_faults, faults_in, statement_faults}
use Rattle.protobuf_parse_location_laws.specs.Standing.{ExtendHasNoMaps, InBody, InFileStatement}
use Rattle.protobuf_parse_location_laws.specs.Standing.{InStatement, IsNoMap}

none_in_first : {A : Type 0} (xs ys : List A) → xs ++ ys ≡ [] → xs ≡ []
none_in_first [] ys e = refl
none_in_first (x ∷ xs) ys e = absurd (cc)

none_in_second : {A : Type 0} (xs ys : List A) → xs ++ ys ≡ [] → ys ≡ []
none_in_second [] ys e = e
none_in_second (x ∷ xs) ys e = absurd (cc)

none_told : (b : Bool) (place : Place) (name : Text)
    → placed place (fault_when b DanglingTypeName name) ≡ [] → b ≡ false
none_told true place name e = absurd (cc)
none_told false place name e = refl

extension_no_map : (env : Environment) (f : FieldStatementSyntax) → extension_faults env f ≡ []
    → IsNoMap f
extension_no_map env (field f) e = none_told (is_map f.type_) f.place f.name (none_in_first _ _ e)
extension_no_map env (group place l name number fields) e = tt

extensions_no_maps : (env : Environment) (fs : List FieldStatementSyntax)
    → flat_map (extension_faults env) fs ≡ [] → AllByRecursion IsNoMap fs
extensions_no_maps env [] e = tt
extensions_no_maps env (f ∷ fs) e = (
  extension_no_map env f (none_in_first (extension_faults env f) _ e),
  extensions_no_maps env fs (none_in_second (extension_faults env f) _ e),
)

extend_no_maps : (env : Environment) (e : ExtendSyntax) → extend_faults env e ≡ []
    → ExtendHasNoMaps (message_extend e)
extend_no_maps env e none = extensions_no_maps env e.fields (none_in_second _ _ none)

mutual
  statement_no_maps : (env : Environment) (s : MessageStatementSyntax)
      → statement_faults env s ≡ [] → InStatement ExtendHasNoMaps s
  statement_no_maps env (message_message place name body) e =
      body_no_maps (env_inside env name) body (none_in_first _ _ e)
  statement_no_maps env (message_extend e) none = extend_no_maps env e none
  statement_no_maps env s e = tt

  body_no_maps : (env : Environment) (ss : MessageStatementList) → faults_in env ss ≡ []
      → InBody ExtendHasNoMaps ss
  body_no_maps env no_statements e = tt
  body_no_maps env (more_statements s ss) e = (
    statement_no_maps env s (none_in_first (statement_faults env s) _ e),
    body_no_maps env ss (none_in_second (statement_faults env s) _ e),
  )

file_statement_no_maps : (env : Environment) (s : StatementSyntax) → file_faults_of env s ≡ []
    → InFileStatement ExtendHasNoMaps s
file_statement_no_maps env (file_message m) e =
    body_no_maps (env_inside env m.name) (message_statements m.body) (none_in_first _ _ e)
file_statement_no_maps env (file_extend e) none = extend_no_maps env e none
file_statement_no_maps env _ e = tt

statements_no_maps : (env : Environment) (ss : List StatementSyntax)
    → flat_map (file_faults_of env) ss ≡ [] → AllByRecursion (InFileStatement ExtendHasNoMaps) ss
statements_no_maps env [] e = tt
statements_no_maps env (s ∷ ss) e = (
  file_statement_no_maps env s (none_in_first (file_faults_of env s) _ e),
  statements_no_maps env ss (none_in_second (file_faults_of env s) _ e),
)

pub faultless_no_maps : (env : Environment) (t : FileSyntax) → file_faults env t ≡ []
    → AllByRecursion (InFileStatement ExtendHasNoMaps) t.statements
faultless_no_maps env t e =
    statements_no_maps env t.statements
    (none_in_second _ (flat_map (file_faults_of env) t.statements) (none_in_first _ _ e))
