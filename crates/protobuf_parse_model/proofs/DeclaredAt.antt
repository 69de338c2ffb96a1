-- Which of a file's declarations are types, which stand behind maps and groups, and which are
-- extensions: those that the lists of each say.
use Rattle.std.proofs.Common.{◌≡◌, ◌∙◌, Bool, true, false, List, [], ◌∷◌, ◌++◌, map, flat_map}
use Rattle.std.proofs.Common.{append-nil, if◌then◌else◌, refl, sym, ap}
use Rattle.std.proofs.lemmas.Grind.{flat_map-append}
use Rattle.std.proofs.lemmas.List.{map-append}
use Rattle.protobuf_parse_base.specs.DeclaredNames.{name_bytes}
use Rattle.protobuf_parse_syntax.proofs.Messages.{view_parts}
use Rattle.protobuf_parse_syntax.specs.declared.tree.declaration.Message.{Message}
use Rattle.protobuf_parse_syntax.specs.Trees.{ExtendSyntax, FieldStatementSyntax, FileSyntax}
use Rattle.protobuf_parse_syntax.specs.Trees.{field, group, OneofStatementSyntax, oneof_field}
use Rattle.protobuf_parse_syntax.specs.Trees.{oneof_option, MessageStatementSyntax, MessageSyntax}
use Rattle.protobuf_parse_syntax.specs.Trees.{MessageStatementList, no_statements, more_statements}
use Rattle.protobuf_parse_syntax.specs.Trees.{message_statements}
use Rattle.protobuf_parse_syntax.specs.InnerViews.{message_statement_syntax}
use Rattle.protobuf_parse_syntax.specs.Trees.{message_syntax, nested_message, StatementSyntax}
use Rattle.protobuf_parse_syntax.specs.Trees as tree
use Rattle.protobuf_parse_model.specs.declared.scope.seen.DeclarationKind.{DeclarationKind}
use Rattle.protobuf_parse_model.specs.declared.scope.seen.DeclarationKind.TheVariants as kind
use Rattle.protobuf_parse_model.specs.Descriptors.{Text}
use Rattle.protobuf_parse_model.specs.DeclaredAt.{DeclaredAt, behind_at, body_at, declare_at}
use Rattle.protobuf_parse_model.specs.DeclaredAt.{extend_at, file_at, inside_at, oneof_at}
use Rattle.protobuf_parse_model.specs.DeclaredAt.{statement_at}
use Rattle.protobuf_parse_model.specs.Declarations.{DeclaredExtension, DeclaredType, Scope}
use Rattle.protobuf_parse_model.specs.Declarations.{a_message, an_enum, declare, inside}
use Rattle.protobuf_parse_model.specs.Declarations.{extend_extensions}
use Rattle.protobuf_parse_model.specs.Declarations.{extensions_of, extensions_in}
use Rattle.protobuf_parse_model.specs.Declarations.{file_extensions, file_generated, file_scope}
use Rattle.protobuf_parse_model.specs.Declarations.{file_types, full_name, generated_by}
use Rattle.protobuf_parse_model.specs.Declarations.{generated_of, generated_in, types_of, types_in}
use Rattle.protobuf_parse_model.specs.Declarations.{statement_extensions, statement_generated}
use Rattle.protobuf_parse_model.specs.Declarations.{statement_types}
use Rattle.protobuf_parse_model.specs.Statements.{entry_name, group_field_name, groups, is_map}
use Rattle.protobuf_parse_model.specs.Statements.{oneof_fields}

-- ---- one declaration

abbrev pub type_when : DeclarationKind → Text → List DeclaredType
type_when kind.Message name = record { name = name; what = a_message } ∷ []
type_when kind.Enum name = record { name = name; what = an_enum } ∷ []
type_when kind.Generated name = []
type_when kind.Extension name = []

abbrev pub behind_when : DeclarationKind → Text → List Text
behind_when kind.Message name = []
behind_when kind.Enum name = []
behind_when kind.Generated name = name ∷ []
behind_when kind.Extension name = []

abbrev pub extension_when : DeclarationKind → Text → List Text
extension_when kind.Message name = []
extension_when kind.Enum name = []
extension_when kind.Generated name = []
extension_when kind.Extension name = name ∷ []

abbrev pub type_of : DeclaredAt → List DeclaredType
type_of d = type_when d.what.kind d.name

abbrev pub behind_of : DeclaredAt → List Text
behind_of d = behind_when d.what.kind d.name

abbrev pub extension_of : DeclaredAt → List Text
extension_of d = extension_when d.what.kind d.name

-- ---- lists of lists

-- what the statements that declare fields in statements stand for
pub flat_map-inside : {A B C : Type 0} (f : B → List C) (g : A → List B) (xs : List A)
    → flat_map (λ (x : A). flat_map f (g x)) xs ≡ flat_map f (flat_map g xs)
flat_map-inside f g [] = refl
flat_map-inside f g (x ∷ xs) = ap (λ ys. flat_map f (g x) ++ ys) (flat_map-inside f g xs)
    ∙ sym (flat_map-append f (g x) (flat_map g xs))

flat_map-each : {A B C : Type 0} (f : B → List C) (g : A → List B) (h : A → List C)
    → ((x : A) → flat_map f (g x) ≡ h x) → (xs : List A)
    → flat_map f (flat_map g xs) ≡ flat_map h xs
flat_map-each f g h each [] = refl
flat_map-each f g h each (x ∷ xs) =
    flat_map-append f (g x) (flat_map g xs)
    ∙ ap (λ ys. ys ++ flat_map f (flat_map g xs)) (each x)
    ∙ ap (λ ys. h x ++ ys) (flat_map-each f g h each xs)

abbrev nothing : (B : Type 0) → List B
nothing B = []

flat_map-none : {A B : Type 0} (xs : List A) → flat_map (λ (x : A). nothing B) xs ≡ []
flat_map-none [] = refl
flat_map-none (x ∷ xs) = flat_map-none xs

-- ---- types

no_type_behind : (scope : Scope) (f : FieldStatementSyntax)
    → flat_map type_of (behind_at scope f) ≡ []
no_type_behind scope (field f) = at (is_map f.type_)
  where
    at : (b : Bool) → flat_map type_of
        (if b then declare_at scope (entry_name f.name) kind.Generated f.place ∷ [] else []) ≡ []
    at true = refl
    at false = refl
no_type_behind scope (group place label name number fields) = refl

no_type_in_oneof : (scope : Scope) (s : OneofStatementSyntax)
    → flat_map type_of (oneof_at scope s) ≡ []
no_type_in_oneof scope (oneof_field f) = no_type_behind scope f
no_type_in_oneof scope (oneof_option o) = refl

no_type_in_extend : (scope : Scope) (f : FieldStatementSyntax)
    → flat_map type_of (extend_at scope f) ≡ []
no_type_in_extend scope (field f) = refl
no_type_in_extend scope (group place label name number fields) = refl

mutual
  types_in_body : (scope : Scope) (s : MessageStatementSyntax)
      → flat_map type_of (body_at scope s) ≡ types_of scope s
  types_in_body scope (tree.message_reserved r) = refl
  types_in_body scope (tree.message_oneof o) =
      flat_map-each type_of (oneof_at scope) (λ s. []) (no_type_in_oneof scope) o.body
      ∙ flat_map-none o.body
  types_in_body scope (tree.message_extend e) =
      flat_map-each type_of (extend_at scope) (λ s. []) (no_type_in_extend scope) e.fields
      ∙ flat_map-none e.fields
  types_in_body scope (tree.message_message place name body) =
      ap (λ ds. declare scope name a_message ∷ ds) (types_inside (inside scope name) body)
  types_in_body scope (tree.message_enum e) = refl
  types_in_body scope (tree.message_extensions e) = refl
  types_in_body scope (tree.message_option o) = refl
  types_in_body scope (tree.message_field f) = no_type_behind scope f

  types_inside : (scope : Scope) (ss : MessageStatementList)
      → flat_map type_of (inside_at scope ss) ≡ types_in scope ss
  types_inside scope no_statements = refl
  types_inside scope (more_statements s ss) =
      flat_map-append type_of (body_at scope s) (inside_at scope ss)
      ∙ ap (λ ds. ds ++ flat_map type_of (inside_at scope ss)) (types_in_body scope s)
      ∙ ap (λ ds. types_of scope s ++ ds) (types_inside scope ss)

types_in_statement : (scope : Scope) (s : StatementSyntax)
    → flat_map type_of (statement_at scope s) ≡ statement_types scope s
types_in_statement scope (tree.file_import i) = refl
types_in_statement scope (tree.file_package p) = refl
types_in_statement scope (tree.file_option o) = refl
types_in_statement scope (tree.file_message m) = types_in_body scope (nested_message m)
types_in_statement scope (tree.file_enum e) = refl
types_in_statement scope (tree.file_extend e) = types_in_body scope (tree.message_extend e)
types_in_statement scope (tree.file_service s) = refl

pub types_are : (t : FileSyntax) → flat_map type_of (file_at t) ≡ file_types t
types_are t = flat_map-each type_of (statement_at (file_scope t)) (statement_types (file_scope t))
    (types_in_statement (file_scope t)) t.statements

-- ---- what stands behind maps and groups

is_behind : (scope : Scope) (f : FieldStatementSyntax)
    → flat_map behind_of (behind_at scope f) ≡ generated_by scope f
is_behind scope (field f) = at (is_map f.type_)
  where
    at : (b : Bool) → flat_map behind_of
        (if b then declare_at scope (entry_name f.name) kind.Generated f.place ∷ [] else [])
        ≡ (if b then full_name scope (entry_name f.name) ∷ [] else [])
    at true = refl
    at false = refl
is_behind scope (group place label name number fields) = refl

behind_in_oneof : (scope : Scope) (s : OneofStatementSyntax)
    → flat_map behind_of (oneof_at scope s) ≡ flat_map (generated_by scope) (oneof_fields s)
behind_in_oneof scope (oneof_field f) = is_behind scope f ∙ sym (append-nil (generated_by scope f))
behind_in_oneof scope (oneof_option o) = refl

behind_in_extend : (scope : Scope) (f : FieldStatementSyntax)
    → flat_map behind_of (extend_at scope f) ≡ flat_map (generated_by scope) (groups f)
behind_in_extend scope (field f) = refl
behind_in_extend scope (group place label name number fields) = refl

mutual
  behind_in_body : (scope : Scope) (s : MessageStatementSyntax)
      → flat_map behind_of (body_at scope s) ≡ generated_of scope s
  behind_in_body scope (tree.message_reserved r) = refl
  behind_in_body scope (tree.message_oneof o) =
      flat_map-each behind_of (oneof_at scope)
      (λ s. flat_map (generated_by scope) (oneof_fields s)) (behind_in_oneof scope) o.body
      ∙ flat_map-inside (generated_by scope) oneof_fields o.body
  behind_in_body scope (tree.message_extend e) =
      flat_map-each behind_of (extend_at scope) (λ f. flat_map (generated_by scope) (groups f))
      (behind_in_extend scope) e.fields
      ∙ flat_map-inside (generated_by scope) groups e.fields
  behind_in_body scope (tree.message_message place name body) =
      behind_inside (inside scope name) body
  behind_in_body scope (tree.message_enum e) = refl
  behind_in_body scope (tree.message_extensions e) = refl
  behind_in_body scope (tree.message_option o) = refl
  behind_in_body scope (tree.message_field f) = is_behind scope f

  behind_inside : (scope : Scope) (ss : MessageStatementList)
      → flat_map behind_of (inside_at scope ss) ≡ generated_in scope ss
  behind_inside scope no_statements = refl
  behind_inside scope (more_statements s ss) =
      flat_map-append behind_of (body_at scope s) (inside_at scope ss)
      ∙ ap (λ ds. ds ++ flat_map behind_of (inside_at scope ss)) (behind_in_body scope s)
      ∙ ap (λ ds. generated_of scope s ++ ds) (behind_inside scope ss)

behind_in_statement : (scope : Scope) (s : StatementSyntax)
    → flat_map behind_of (statement_at scope s) ≡ statement_generated scope s
behind_in_statement scope (tree.file_import i) = refl
behind_in_statement scope (tree.file_package p) = refl
behind_in_statement scope (tree.file_option o) = refl
behind_in_statement scope (tree.file_message m) = behind_in_body scope (nested_message m)
behind_in_statement scope (tree.file_enum e) = refl
behind_in_statement scope (tree.file_extend e) = behind_in_body scope (tree.message_extend e)
behind_in_statement scope (tree.file_service s) = refl

pub behind_are : (t : FileSyntax) → flat_map behind_of (file_at t) ≡ file_generated t
behind_are t =
    flat_map-each behind_of (statement_at (file_scope t)) (statement_generated (file_scope t))
    (behind_in_statement (file_scope t)) t.statements

-- ---- extensions

abbrev names_of : List DeclaredExtension → List Text
names_of ds = map (λ (d : DeclaredExtension). d.name) ds

no_extension_behind : (scope : Scope) (f : FieldStatementSyntax)
    → flat_map extension_of (behind_at scope f) ≡ []
no_extension_behind scope (field f) = at (is_map f.type_)
  where
    at : (b : Bool) → flat_map extension_of
        (if b then declare_at scope (entry_name f.name) kind.Generated f.place ∷ [] else []) ≡ []
    at true = refl
    at false = refl
no_extension_behind scope (group place label name number fields) = refl

no_extension_in_oneof : (scope : Scope) (s : OneofStatementSyntax)
    → flat_map extension_of (oneof_at scope s) ≡ []
no_extension_in_oneof scope (oneof_field f) = no_extension_behind scope f
no_extension_in_oneof scope (oneof_option o) = refl

extensions_in_extend : (scope : Scope) (e : ExtendSyntax) (fs : List FieldStatementSyntax)
    → flat_map extension_of (flat_map (extend_at scope) fs)
    ≡ names_of (extend_extensions scope (record e { fields = fs }))
extensions_in_extend scope e [] = refl
extensions_in_extend scope e (field f ∷ fs) =
    ap (λ ns. full_name scope f.name ∷ ns) (extensions_in_extend scope e fs)
extensions_in_extend scope e (group place label name number fields ∷ fs) =
    ap (λ ns. full_name scope (group_field_name name) ∷ ns) (extensions_in_extend scope e fs)

mutual
  extensions_in_body : (scope : Scope) (s : MessageStatementSyntax)
      → flat_map extension_of (body_at scope s) ≡ names_of (extensions_of scope s)
  extensions_in_body scope (tree.message_reserved r) = refl
  extensions_in_body scope (tree.message_oneof o) =
      flat_map-each extension_of (oneof_at scope) (λ s. []) (no_extension_in_oneof scope) o.body
      ∙ flat_map-none o.body
  extensions_in_body scope (tree.message_extend e) = extensions_in_extend scope e e.fields
  extensions_in_body scope (tree.message_message place name body) =
      extensions_inside (inside scope name) body
  extensions_in_body scope (tree.message_enum e) = refl
  extensions_in_body scope (tree.message_extensions e) = refl
  extensions_in_body scope (tree.message_option o) = refl
  extensions_in_body scope (tree.message_field f) = no_extension_behind scope f

  extensions_inside : (scope : Scope) (ss : MessageStatementList)
      → flat_map extension_of (inside_at scope ss) ≡ names_of (extensions_in scope ss)
  extensions_inside scope no_statements = refl
  extensions_inside scope (more_statements s ss) =
      flat_map-append extension_of (body_at scope s) (inside_at scope ss)
      ∙ ap (λ ds. ds ++ flat_map extension_of (inside_at scope ss)) (extensions_in_body scope s)
      ∙ ap (λ ds. names_of (extensions_of scope s) ++ ds) (extensions_inside scope ss)
      ∙ sym (map-append (λ (d : DeclaredExtension). d.name) (extensions_of scope s)
      (extensions_in scope ss))

extensions_in_statement : (scope : Scope) (s : StatementSyntax)
    → flat_map extension_of (statement_at scope s) ≡ names_of (statement_extensions scope s)
extensions_in_statement scope (tree.file_import i) = refl
extensions_in_statement scope (tree.file_package p) = refl
extensions_in_statement scope (tree.file_option o) = refl
extensions_in_statement scope (tree.file_message m) = extensions_in_body scope (nested_message m)
extensions_in_statement scope (tree.file_enum e) = refl
extensions_in_statement scope (tree.file_extend e) = extensions_in_extend scope e e.fields
extensions_in_statement scope (tree.file_service s) = refl

extensions_in_statements : (scope : Scope) (ss : List StatementSyntax)
    → flat_map extension_of (flat_map (statement_at scope) ss)
    ≡ names_of (flat_map (statement_extensions scope) ss)
extensions_in_statements scope [] = refl
extensions_in_statements scope (s ∷ ss) =
    flat_map-append extension_of (statement_at scope s) (flat_map (statement_at scope) ss)
    ∙ ap (λ ns. ns ++ flat_map extension_of (flat_map (statement_at scope) ss))
    (extensions_in_statement scope s)
    ∙ ap (λ ns. names_of (statement_extensions scope s) ++ ns) (extensions_in_statements scope ss)
    ∙ sym (map-append (λ (d : DeclaredExtension). d.name) (statement_extensions scope s)
    (flat_map (statement_extensions scope) ss))

pub extensions_are : (t : FileSyntax)
    → flat_map extension_of (file_at t)
    ≡ map (λ (d : DeclaredExtension). d.name) (file_extensions t)
extensions_are t = extensions_in_statements (file_scope t) t.statements

-- ---- one level of what nests

inside_at_is : (scope : Scope) (ss : List MessageStatementSyntax)
    → inside_at scope (message_statements ss) ≡ flat_map (body_at scope) ss
inside_at_is scope [] = refl
inside_at_is scope (s ∷ ss) = ap (λ ds. body_at scope s ++ ds) (inside_at_is scope ss)

-- a message: it, and what its statements declare
pub body_at-view : (scope : Scope) (m : Message)
    → body_at scope (nested_message (message_syntax m))
    ≡ declare_at scope (name_bytes m.name) kind.Message m.place
    ∷ flat_map (body_at (inside scope (name_bytes m.name)))
    (map message_statement_syntax m.body.items)
body_at-view scope m =
    ap (λ ds. declare_at scope (message_syntax m).name kind.Message (message_syntax m).place ∷ ds)
    (inside_at_is (inside scope (message_syntax m).name) (message_syntax m).body)
    ∙ ap (λ (x : MessageSyntax). declare_at scope x.name kind.Message x.place
    ∷ flat_map (body_at (inside scope x.name)) x.body) (view_parts m)
