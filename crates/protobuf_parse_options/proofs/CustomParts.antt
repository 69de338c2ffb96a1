-- A custom option is set in a part of a file just where one of the part's sets has it.
use Rattle.std.proofs.Common.{◌≡◌, ◌∙◌, ◌<◌, ℕ, zero, suc, Bool, true, false, ◌||◌, List, [], ◌∷◌}
use Rattle.std.proofs.Common.{◌++◌, map, flat_map, length, refl, ap, sym, arith}
use Rattle.std.specs.List.{list_any}
use Rattle.std.specs.Prelude.{slice_index_or}
use Rattle.std.proofs.Math.Bool.{or-false}
use Rattle.std.proofs.lemmas.List.{map-append}
use Rattle.std.proofs.lemmas.List.Folds.{list_any-append}
use Rattle.protobuf_parse_syntax.specs.Trees as tree
use Rattle.protobuf_parse_syntax.specs.InnerViews.{message_statement_syntax}
use Rattle.protobuf_parse_syntax.specs.Trees.{OptionSyntax, FieldStatementSyntax, field, group}
use Rattle.protobuf_parse_syntax.specs.Trees.{OneofStatementSyntax, oneof_option, oneof_field}
use Rattle.protobuf_parse_syntax.specs.Trees.{EnumStatementSyntax, enum_option, enum_value}
use Rattle.protobuf_parse_syntax.specs.Trees.{enum_reserved, ServiceStatementSyntax, service_method}
use Rattle.protobuf_parse_syntax.specs.Trees.{service_option, MessageStatementSyntax, message_oneof}
use Rattle.protobuf_parse_syntax.specs.Trees.{message_extend, message_message, message_enum}
use Rattle.protobuf_parse_syntax.specs.Trees.{message_option, message_field, message_reserved}
use Rattle.protobuf_parse_syntax.specs.Trees.{message_extensions, MessageStatementList}
use Rattle.protobuf_parse_syntax.specs.Trees.{no_statements, more_statements, StatementSyntax}
use Rattle.protobuf_parse_syntax.specs.Trees.{file_import, file_package, file_option, file_message}
use Rattle.protobuf_parse_syntax.specs.Trees.{file_enum, file_extend, file_service, FileSyntax}
use Rattle.protobuf_parse_syntax.specs.Trees.{EnumSyntax, ServiceSyntax, OneofSyntax, MessageSyntax}
use Rattle.protobuf_parse_syntax.specs.Trees.{nested_message}
use Rattle.protobuf_parse_syntax.specs.declared.tree.declaration.Message.{Message}
use Rattle.protobuf_parse_syntax.specs.declared.tree.declaration.MessageStatement.TheVariants as statement
use Rattle.protobuf_parse_syntax.proofs.Messages.{view_parts, views_message}
use Rattle.protobuf_parse_syntax.specs.declared.tree.FileStatement.{FileStatement}
use Rattle.protobuf_parse_syntax.specs.declared.tree.field.FieldStatement.{FieldStatement}
use Rattle.protobuf_parse_syntax.specs.declared.tree.declaration.EnumStatement.{EnumStatement}
use Rattle.protobuf_parse_syntax.specs.declared.tree.declaration.OneOfStatement.{OneOfStatement}
use Rattle.protobuf_parse_syntax.specs.declared.tree.declaration.ServiceStatement.{ServiceStatement}
use Rattle.protobuf_parse_syntax.specs.declared.tree.option.OptionStatement.{OptionStatement}
use Rattle.protobuf_parse_syntax.specs.declared.tree.option.ProtobufOption.{ProtobufOption}
use Rattle.protobuf_parse_model.specs.Statements.{group_body, message_body, oneof_fields}
use Rattle.protobuf_parse_model.specs.Statements.{oneof_statement_options}
use Rattle.protobuf_parse_model.specs.Declarations.{Scope, inside, file_scope}
use Rattle.protobuf_parse_model.proofs.DeclaredAt.{flat_map-inside}
use Rattle.protobuf_parse_elaboration.specs.Enums.{enum_values, options_in_enum}
use Rattle.protobuf_parse_elaboration.specs.Services.{methods_in, options_in_service}
use Rattle.protobuf_parse_elaboration.specs.Services.{statement_option}
use Rattle.protobuf_parse_elaboration.specs.Messages.{options_in_message}
use Rattle.protobuf_parse_elaboration.specs.FileDescriptor.{options_in_file}
use Rattle.protobuf_parse_elaboration.specs.OptionSets.{OptionSet, sets_in_group, field_sets}
use Rattle.protobuf_parse_elaboration.specs.OptionSets.{oneof_sets, value_set, enum_sets, sets_of}
use Rattle.protobuf_parse_elaboration.specs.OptionSets.{sets_in, method_set, service_sets}
use Rattle.protobuf_parse_elaboration.specs.OptionSets.{statement_sets, option_sets}
use Rattle.protobuf_parse_elaboration.specs.CustomSets.{is_custom, sets_custom}
use Rattle.protobuf_parse_options.specs.CustomParts as part
use Rattle.protobuf_parse_options.proofs.BareDeclarations.{any-becomes}

-- ---- truths

or-both : (a b c d : Bool) → ((a || b) || (c || d)) ≡ ((a || c) || (b || d))
or-both true b c d = refl
or-both false true true d = refl
or-both false true false d = refl
or-both false false c d = refl

-- ---- lists

-- of lists one after another
any-flat : {X Y : Type 0} (test : Y → Bool) (f : X → List Y) (q : X → Bool)
    → ((x : X) → list_any test (f x) ≡ q x) → (xs : List X)
    → list_any test (flat_map f xs) ≡ list_any q xs
any-flat test f q each [] = refl
any-flat test f q each (x ∷ xs) =
    list_any-append test (f x) (flat_map f xs)
    ∙ ap (λ b. b || list_any test (flat_map f xs)) (each x)
    ∙ ap (λ b. q x || b) (any-flat test f q each xs)

-- of two tests of each element
any-both : {X : Type 0} (p r q : X → Bool) → ((x : X) → (p x || r x) ≡ q x) → (xs : List X)
    → (list_any p xs || list_any r xs) ≡ list_any q xs
any-both p r q each [] = refl
any-both p r q each (x ∷ xs) =
    or-both (p x) (list_any p xs) (r x) (list_any r xs)
    ∙ ap (λ b. b || (list_any p xs || list_any r xs)) (each x)
    ∙ ap (λ b. q x || b) (any-both p r q each xs)

-- of what is seen of a list
any_seen : {X Y : Type 0} (test : Y → Bool) (view : X → Y) (xs : List X)
    → list_any (λ x. test (view x)) xs ≡ list_any test (map view xs)
any_seen test view xs = sym (any-becomes view test xs)

-- ---- fields

grouped-custom : (scope within : Scope) (s : FieldStatementSyntax)
    → list_any sets_custom (sets_in_group scope within s) ≡ part.custom_in_grouped s
grouped-custom scope within (field f) = or-false (list_any is_custom f.options)
grouped-custom scope within (group place label name number fields) = refl

field-custom : (scope : Scope) (s : FieldStatementSyntax)
    → list_any sets_custom (field_sets scope s) ≡ part.custom_in_field s
field-custom scope (field f) = or-false (list_any is_custom f.options)
field-custom scope (group place label name number fields) =
    any-flat sets_custom (sets_in_group scope (inside scope name)) part.custom_in_grouped
    (grouped-custom scope (inside scope name)) (group_body fields)

fields-custom : (scope : Scope) (fs : List FieldStatementSyntax)
    → list_any sets_custom (flat_map (field_sets scope) fs) ≡ list_any part.custom_in_field fs
fields-custom scope fs =
    any-flat sets_custom (field_sets scope) part.custom_in_field (field-custom scope) fs

-- ---- oneofs, enums and services

-- where a statement sets options of its construct, or has sets of its own
module _ {X : Type 0} (options : X → List OptionSyntax) (sets : X → List OptionSet)
    (custom : X → Bool)
    (each : (x : X)
    → (list_any is_custom (options x) || list_any sets_custom (sets x)) ≡ custom x) where
  in-statements : (xs : List X)
      → (list_any is_custom (flat_map options xs) || list_any sets_custom (flat_map sets xs))
      ≡ list_any custom xs
  in-statements xs =
      ap (λ b. b || list_any sets_custom (flat_map sets xs))
      (any-flat is_custom options (λ x. list_any is_custom (options x)) (λ x. refl) xs)
      ∙ ap (λ b. list_any (λ x. list_any is_custom (options x)) xs || b)
      (any-flat sets_custom sets (λ x. list_any sets_custom (sets x)) (λ x. refl) xs)
      ∙ any-both (λ x. list_any is_custom (options x)) (λ x. list_any sets_custom (sets x)) custom
      each xs

-- what each of what each becomes
map-flat : {X Y Z : Type 0} (f : Y → Z) (g : X → List Y) (xs : List X)
    → map f (flat_map g xs) ≡ flat_map (λ x. map f (g x)) xs
map-flat f g [] = refl
map-flat f g (x ∷ xs) = map-append f (g x) (flat_map g xs)
    ∙ ap (λ l. map f (g x) ++ l) (map-flat f g xs)

oneof-custom : (scope : Scope) (o : OneofSyntax)
    → list_any sets_custom (oneof_sets scope o) ≡ list_any part.custom_in_oneof o.body
oneof-custom scope o =
    ap (λ l. list_any is_custom (flat_map oneof_statement_options o.body)
    || list_any sets_custom l) (sym (flat_map-inside (field_sets scope) oneof_fields o.body))
    ∙ in-statements oneof_statement_options (λ s. flat_map (field_sets scope) (oneof_fields s))
    part.custom_in_oneof at o.body
  where
    at : (s : OneofStatementSyntax) → (list_any is_custom (oneof_statement_options s)
        || list_any sets_custom (flat_map (field_sets scope) (oneof_fields s)))
        ≡ part.custom_in_oneof s
    at (oneof_option o) = or-false (is_custom o.option || false) ∙ or-false (is_custom o.option)
    at (oneof_field f) = fields-custom scope (f ∷ []) ∙ or-false (part.custom_in_field f)

enum-custom : (scope : Scope) (e : EnumSyntax)
    → list_any sets_custom (enum_sets scope e) ≡ list_any part.custom_in_enum e.body
enum-custom scope e =
    ap (λ l. list_any is_custom (flat_map options_in_enum e.body) || list_any sets_custom l)
    (map-flat (value_set scope (inside scope e.name)) enum_values e.body)
    ∙ in-statements options_in_enum
    (λ s. map (value_set scope (inside scope e.name)) (enum_values s))
    part.custom_in_enum at e.body
  where
    at : (s : EnumStatementSyntax) → (list_any is_custom (options_in_enum s)
        || list_any sets_custom (map (value_set scope (inside scope e.name)) (enum_values s)))
        ≡ part.custom_in_enum s
    at (enum_option o) = or-false (is_custom o.option || false) ∙ or-false (is_custom o.option)
    at (enum_value v) = or-false (list_any is_custom v.options)
    at (enum_reserved r) = refl

service-custom : (scope : Scope) (s : ServiceSyntax)
    → list_any sets_custom (service_sets scope s) ≡ list_any part.custom_in_service s.body
service-custom scope s =
    ap (λ l. list_any is_custom (flat_map options_in_service s.body) || list_any sets_custom l)
    (map-flat (method_set scope (inside scope s.name)) methods_in s.body)
    ∙ in-statements options_in_service
    (λ z. map (method_set scope (inside scope s.name)) (methods_in z))
    part.custom_in_service at s.body
  where
    at : (z : ServiceStatementSyntax) → (list_any is_custom (options_in_service z)
        || list_any sets_custom (map (method_set scope (inside scope s.name)) (methods_in z)))
        ≡ part.custom_in_service z
    at (service_option o) = or-false (is_custom o.option || false) ∙ or-false (is_custom o.option)
    at (service_method m) = or-false (list_any is_custom (map statement_option m.options))
        ∙ any-becomes statement_option is_custom m.options

-- ---- messages

mutual
  message-custom : (scope : Scope) (s : MessageStatementSyntax)
      → (list_any is_custom (options_in_message s) || list_any sets_custom (sets_of scope s))
      ≡ part.custom_in_message s
  message-custom scope (message_field f) = field-custom scope f
  message-custom scope (message_oneof o) = oneof-custom scope o
  message-custom scope (message_extend e) = fields-custom scope e.fields
  message-custom scope (message_message place name body) = body-custom (inside scope name) body
  message-custom scope (message_enum e) = enum-custom scope e
  message-custom scope (message_option o) =
      or-false (is_custom o.option || false) ∙ or-false (is_custom o.option)
  message-custom scope (message_reserved r) = refl
  message-custom scope (message_extensions e) = refl

  body-custom : (scope : Scope) (ss : MessageStatementList)
      → (list_any is_custom (flat_map options_in_message (message_body ss))
      || list_any sets_custom (sets_in scope ss))
      ≡ part.custom_in_body ss
  body-custom scope no_statements = refl
  body-custom scope (more_statements s ss) =
      let options = list_any is_custom (options_in_message s) in
      let others = list_any is_custom (flat_map options_in_message (message_body ss)) in
      let own = list_any sets_custom (sets_of scope s) in
      let inner = list_any sets_custom (sets_in scope ss) in
      ap (λ b. b || list_any sets_custom (sets_of scope s ++ sets_in scope ss))
      (list_any-append is_custom (options_in_message s)
      (flat_map options_in_message (message_body ss)))
      ∙ ap (λ b. (options || others) || b)
      (list_any-append sets_custom (sets_of scope s) (sets_in scope ss))
      ∙ or-both options others own inner
      ∙ ap (λ b. b || (others || inner)) (message-custom scope s)
      ∙ ap (λ b. part.custom_in_message s || b) (body-custom scope ss)

-- the statements of a message
pub custom_in_statements : (ss : List MessageStatementSyntax)
    → part.custom_in_body (tree.message_statements ss) ≡ list_any part.custom_in_message ss
custom_in_statements [] = refl
custom_in_statements (s ∷ ss) =
    ap (λ b. part.custom_in_message s || b) (custom_in_statements ss)

-- ---- files

statement-custom : (scope : Scope) (s : StatementSyntax)
    → (list_any is_custom (options_in_file s) || list_any sets_custom (statement_sets scope s))
    ≡ part.custom_in_file s
statement-custom scope (file_import i) = refl
statement-custom scope (file_package p) = refl
statement-custom scope (file_option o) =
    or-false (is_custom o.option || false) ∙ or-false (is_custom o.option)
statement-custom scope (file_message m) = message-custom scope (nested_message m)
statement-custom scope (file_enum e) = enum-custom scope e
statement-custom scope (file_extend e) = fields-custom scope e.fields
statement-custom scope (file_service s) = service-custom scope s

pub custom_in_file : (ss : List FileStatement) (t : FileSyntax)
    → map tree.statement_syntax ss ≡ t.statements
    → list_any (λ (s : FileStatement). part.custom_in_file (tree.statement_syntax s)) ss
    ≡ list_any sets_custom (option_sets t)
custom_in_file ss t e =
    any_seen part.custom_in_file tree.statement_syntax ss
    ∙ ap (list_any part.custom_in_file) e
    ∙ sym (in-statements options_in_file (statement_sets (file_scope t)) part.custom_in_file
    (statement-custom (file_scope t)) t.statements)

-- ---- loops

-- where one passes the test at a position
pub any_at : {S X : Type 0} (test : X → Bool) (view : S → X) (xs : List S) (i : ℕ) (s : S)
    → i < length xs → s ≡ slice_index_or xs i s → test (view s) ≡ true
    → list_any test (map view xs) ≡ true
any_at test view [] i s lt is h = absurd (omega arith)
any_at test view (x ∷ xs) zero s lt is h =
    ap (λ b. b || list_any test (map view xs)) (rw is at h)
any_at test view (x ∷ xs) (suc i) s lt is h =
    ap (λ b. test (view x) || b) (any_at test view xs i s (omega arith) is h)
    ∙ or-true (test (view x))
  where
    or-true : (b : Bool) → (b || true) ≡ true
    or-true true = refl
    or-true false = refl

-- ---- what lists in memory set

pub options_any : (xs : List ProtobufOption)
    → list_any (λ (o : ProtobufOption). is_custom (tree.option_syntax o)) xs
    ≡ list_any is_custom (map tree.option_syntax xs)
options_any xs = any_seen is_custom tree.option_syntax xs

pub statements_any : (xs : List OptionStatement)
    → list_any (λ (o : OptionStatement). is_custom (tree.option_statement_syntax o).option) xs
    ≡ list_any part.custom_in_statement (map tree.option_statement_syntax xs)
statements_any xs = any_seen part.custom_in_statement tree.option_statement_syntax xs

pub fields_any : (xs : List FieldStatement)
    → list_any (λ (f : FieldStatement). part.custom_in_field (tree.field_statement_syntax f)) xs
    ≡ list_any part.custom_in_field (map tree.field_statement_syntax xs)
fields_any xs = any_seen part.custom_in_field tree.field_statement_syntax xs

pub oneofs_any : (xs : List OneOfStatement)
    → list_any (λ (s : OneOfStatement). part.custom_in_oneof (tree.oneof_statement_syntax s)) xs
    ≡ list_any part.custom_in_oneof (map tree.oneof_statement_syntax xs)
oneofs_any xs = any_seen part.custom_in_oneof tree.oneof_statement_syntax xs

pub enums_any : (xs : List EnumStatement)
    → list_any (λ (s : EnumStatement). part.custom_in_enum (tree.enum_statement_syntax s)) xs
    ≡ list_any part.custom_in_enum (map tree.enum_statement_syntax xs)
enums_any xs = any_seen part.custom_in_enum tree.enum_statement_syntax xs

pub services_any : (xs : List ServiceStatement)
    → list_any (λ (s : ServiceStatement). part.custom_in_service (tree.service_statement_syntax s))
    xs ≡ list_any part.custom_in_service (map tree.service_statement_syntax xs)
services_any xs = any_seen part.custom_in_service tree.service_statement_syntax xs

-- a message
pub message_custom : (m : Message)
    → part.custom_in_message (nested_message (tree.message_syntax m))
    ≡ list_any part.custom_in_message (map message_statement_syntax m.body.items)
message_custom m =
    custom_in_statements (tree.message_syntax m).body
    ∙ ap (λ (x : MessageSyntax). list_any part.custom_in_message x.body) (view_parts m)

-- one that stands in a message
pub nested_custom : (m : Message)
    → part.custom_in_message (message_statement_syntax (statement.Message m))
    ≡ list_any part.custom_in_message (map message_statement_syntax m.body.items)
nested_custom m = ap part.custom_in_message (views_message m) ∙ message_custom m
