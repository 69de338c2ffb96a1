-- A file's descriptor has the names of messages that its tree has, each as often.
use Rattle.std.proofs.Common.{◌≡◌, ℕ, ◌+◌, List, [], ◌∷◌, ◌++◌, map, flat_map, if◌then◌else◌, refl}
use Rattle.std.proofs.Common.{sym, ap, subst, ◌∙◌, arith}
use Rattle.std.proofs.lemmas.List.{append-nil, map-append}
use Rattle.std.proofs.lemmas.Grind.{flat_map-append}
use Rattle.protobuf_parse_base.specs.Names.{absolute_text}
use Rattle.protobuf_parse_syntax.specs.Trees.{TypeSyntax, scalar, map_of, named}
use Rattle.protobuf_parse_syntax.specs.Trees.{FieldStatementSyntax, field, group}
use Rattle.protobuf_parse_syntax.specs.Trees.{MessageStatementSyntax, message_field, message_oneof}
use Rattle.protobuf_parse_syntax.specs.Trees.{message_extend, message_message, message_enum}
use Rattle.protobuf_parse_syntax.specs.Trees.{MessageStatementList, no_statements, more_statements}
use Rattle.protobuf_parse_syntax.specs.Trees.{StatementSyntax, file_message, file_enum, file_extend}
use Rattle.protobuf_parse_syntax.specs.Trees.{nested_message, FileSyntax, package_of}
use Rattle.protobuf_parse_model.specs.Statements.{message_body, entry_name, is_map, oneof_fields}
use Rattle.protobuf_parse_model.specs.Statements.{groups}
use Rattle.protobuf_parse_model.specs.Descriptors.{Text, MessageDescriptor}
use Rattle.protobuf_parse_model.specs.Declarations as names
use Rattle.protobuf_parse_model.specs.Declarations.{Scope, DeclaredType, full_name, file_scope}
use Rattle.protobuf_parse_model.specs.Declarations.{file_types, file_generated, generated_by}
use Rattle.protobuf_parse_model.specs.Declarations.{generated_of, generated_in, types_of, types_in}
use Rattle.protobuf_parse_model.specs.Declarations.{statement_types, statement_generated}
use Rattle.protobuf_parse_model.specs.Linking.{occurrences}
use Rattle.protobuf_parse_model.specs.Environment.{Environment, env_inside}
use Rattle.protobuf_parse_elaboration.specs.NamedTypes.{declared_message_name}
use Rattle.protobuf_parse_elaboration.specs.Messages.{messages_behind, entries_of, message_from}
use Rattle.protobuf_parse_elaboration.specs.Messages.{nested_of, nested_in}
use Rattle.protobuf_parse_elaboration.specs.FileDescriptor as files
use Rattle.protobuf_parse_elaboration.specs.FileDescriptor.{file_of}
use Rattle.protobuf_parse_elaboration.proofs.Orders.{count-append}
use Rattle.protobuf_parse_wire.specs.Declarations.{Declaration, name_within, declared_message}
use Rattle.protobuf_parse_options.specs.NamesAlike.{HasPackageName}
use Rattle.protobuf_parse_options.specs.CountedAlike.{message_names}
use Rattle.protobuf_parse_options.proofs.Agreement.{scope_inside, package_is}
use Rattle.protobuf_parse_options.proofs.AgreementBack.{nested_are}

-- the full names of messages in a scope, with all that stands inside them
abbrev names_within : Text → List MessageDescriptor → List Text
names_within scope ms = map (λ (d : Declaration). d.name) (flat_map (declared_message scope) ms)

names-append : (scope : Text) (ms ns : List MessageDescriptor)
    → names_within scope (ms ++ ns) ≡ names_within scope ms ++ names_within scope ns
names-append scope ms ns =
    ap (map (λ (d : Declaration). d.name)) (flat_map-append (declared_message scope) ms ns)
    ∙ map-append (λ (d : Declaration). d.name) (flat_map (declared_message scope) ms)
    (flat_map (declared_message scope) ns)

-- of a message: its own, and those in its scope
own-names : (env : Environment) (name : Text) (body : List MessageStatementSyntax)
    (ns : List MessageDescriptor)
    → names_within (absolute_text env.scope) (message_from env name body ns ∷ [])
    ≡ full_name env.scope name ∷ names_within (absolute_text (names.inside env.scope name)) ns
own-names env name body ns =
    let inner : Text = name_within (absolute_text env.scope) name in
    ap (map (λ (d : Declaration). d.name))
    (append-nil (declared_message (absolute_text env.scope) (message_from env name body ns)))
    ∙ ap (λ (ds : List Declaration). inner ∷ map (λ (d : Declaration). d.name) ds)
    (nested_are inner ns)
    ∙ ap (λ (s : Text). inner ∷ names_within s ns) (sym (scope_inside env.scope name))

-- ---- behind maps and groups

entry-names : (env : Environment) (name : Text) (t : TypeSyntax)
    → names_within (absolute_text env.scope) (entries_of env name t)
    ≡ (if is_map t then full_name env.scope (entry_name name) ∷ [] else [])
entry-names env name (map_of key value) = refl
entry-names env name (scalar s) = refl
entry-names env name (named n) = refl

behind-names : (env : Environment) (f : FieldStatementSyntax)
    → names_within (absolute_text env.scope) (messages_behind env f) ≡ generated_by env.scope f
behind-names env (field f) = entry-names env f.name f.type_
behind-names env (group place label name number fields) = refl

behind-all : (env : Environment) (fs : List FieldStatementSyntax)
    → names_within (absolute_text env.scope) (flat_map (messages_behind env) fs)
    ≡ flat_map (generated_by env.scope) fs
behind-all env [] = refl
behind-all env (f ∷ fs) =
    names-append (absolute_text env.scope) (messages_behind env f)
    (flat_map (messages_behind env) fs)
    ∙ ap (λ (ns : List Text). ns
    ++ names_within (absolute_text env.scope)
    (flat_map (messages_behind env) fs)) (behind-names env f)
    ∙ ap (λ (ns : List Text). generated_by env.scope f ++ ns) (behind-all env fs)

module _ (n : Text) where
  -- ---- counted alike

  -- the name stands as often among the messages that statements declare and generate as among those
  -- that they become
  abbrev Alike : Text → List DeclaredType → List Text → List MessageDescriptor → Type 0
  Alike scope told generated ms =
      occurrences n (flat_map declared_message_name told) + occurrences n generated
      ≡ occurrences n (names_within scope ms)

  both-alike : (scope : Text) (told told' : List DeclaredType) (generated generated' : List Text)
      (ms ms' : List MessageDescriptor) → Alike scope told generated ms
      → Alike scope told' generated' ms'
      → Alike scope (told ++ told') (generated ++ generated') (ms ++ ms')
  both-alike scope told told' generated generated' ms ms' h k =
      sums _ _ _ _ _ _ _ _ _
      (ap (occurrences n) (flat_map-append declared_message_name told told')
      ∙ count-append n (flat_map declared_message_name told) (flat_map declared_message_name told'))
      (count-append n generated generated')
      (ap (occurrences n) (names-append scope ms ms')
      ∙ count-append n (names_within scope ms) (names_within scope ms'))
      h k
    where
      sums : (t g m t1 t2 g1 g2 m1 m2 : ℕ) → t ≡ t1 + t2 → g ≡ g1 + g2 → m ≡ m1 + m2 → t1 + g1 ≡ m1
          → t2 + g2 ≡ m2 → t + g ≡ m
      sums t g m t1 t2 g1 g2 m1 m2 a b d h k = omega arith

  -- where no message is told
  none-told : (x y : ℕ) → x ≡ y → 0 + x ≡ y
  none-told x y h = omega (arith, h)

  -- fields, of which only the messages behind them count
  fields-alike : (env : Environment) (fs : List FieldStatementSyntax)
      → Alike (absolute_text env.scope) [] (flat_map (generated_by env.scope) fs)
      (flat_map (messages_behind env) fs)
  fields-alike env fs = none-told _ _ (sym (ap (occurrences n) (behind-all env fs)))

  -- a message, by what stands inside it
  message-alike : (env : Environment) (name : Text) (body : List MessageStatementSyntax)
      (told : List DeclaredType) (generated : List Text) (ns : List MessageDescriptor)
      → Alike (absolute_text (names.inside env.scope name)) told generated ns
      → Alike (absolute_text env.scope)
      (names.declare env.scope name names.a_message ∷ told) generated
      (message_from env name body ns ∷ [])
  message-alike env name body told generated ns h =
      let own : List Text = full_name env.scope name ∷ [] in
      sums _ _ _ _ _ _
      (count-append n own (flat_map declared_message_name told))
      (ap (occurrences n) (own-names env name body ns)
      ∙ count-append n own (names_within (absolute_text (names.inside env.scope name)) ns))
      h
    where
      sums : (t o t1 g m m1 : ℕ) → t ≡ o + t1 → m ≡ o + m1 → t1 + g ≡ m1 → t + g ≡ m
      sums t o t1 g m m1 a b h = omega arith

  mutual
    statement-alike : (env : Environment) (s : MessageStatementSyntax)
        → Alike (absolute_text env.scope) (types_of env.scope s) (generated_of env.scope s)
        (nested_of env s)
    statement-alike env (message_message place name body) =
        message-alike env name (message_body body) (types_in (names.inside env.scope name) body)
        (generated_in (names.inside env.scope name) body) (nested_in (env_inside env name) body)
        (list-alike (env_inside env name) body)
    statement-alike env (message_enum e) = refl
    statement-alike env (message_field f) =
        none-told _ _ (sym (ap (occurrences n) (behind-names env f)))
    statement-alike env (message_oneof o) = fields-alike env (flat_map oneof_fields o.body)
    statement-alike env (message_extend e) = fields-alike env (flat_map groups e.fields)
    statement-alike env _ = refl

    list-alike : (env : Environment) (ss : MessageStatementList)
        → Alike (absolute_text env.scope) (types_in env.scope ss) (generated_in env.scope ss)
        (nested_in env ss)
    list-alike env no_statements = refl
    list-alike env (more_statements s ss) =
        both-alike (absolute_text env.scope) (types_of env.scope s) (types_in env.scope ss)
        (generated_of env.scope s) (generated_in env.scope ss) (nested_of env s) (nested_in env ss)
        (statement-alike env s) (list-alike env ss)

  -- of each of a list
  each-alike : {S : Type 0} (scope : Text) (told : S → List DeclaredType)
      (generated : S → List Text) (ms : S → List MessageDescriptor)
      → ((s : S) → Alike scope (told s) (generated s) (ms s)) → (ss : List S)
      → Alike scope (flat_map told ss) (flat_map generated ss) (flat_map ms ss)
  each-alike scope told generated ms each [] = refl
  each-alike scope told generated ms each (s ∷ ss) =
      both-alike scope (told s) (flat_map told ss) (generated s) (flat_map generated ss) (ms s)
      (flat_map ms ss) (each s) (each-alike scope told generated ms each ss)

  file_statement-alike : (env : Environment) (s : StatementSyntax)
      → Alike (absolute_text env.scope) (statement_types env.scope s)
      (statement_generated env.scope s) (files.file_messages_of env s)
  file_statement-alike env (file_message m) = statement-alike env (nested_message m)
  file_statement-alike env (file_enum e) = refl
  file_statement-alike env (file_extend e) = fields-alike env (flat_map groups e.fields)
  file_statement-alike env _ = refl

-- the messages of a file
pub messages_are_counted_alike : (env : Environment) (path : Text) (t : FileSyntax) (n : Text)
    → env.scope ≡ file_scope t → HasPackageName t
    → occurrences n (flat_map declared_message_name (file_types t))
    + occurrences n (file_generated t)
    ≡ occurrences n (message_names (file_of env path t))
messages_are_counted_alike env path t n scoped has_name =
    let ms : List MessageDescriptor = flat_map (files.file_messages_of env) t.statements in
    let told : Alike n (absolute_text env.scope) (flat_map (statement_types env.scope) t.statements)
    (flat_map (statement_generated env.scope) t.statements) ms =
    each-alike n (absolute_text env.scope) (statement_types env.scope)
    (statement_generated env.scope) (files.file_messages_of env)
    (file_statement-alike n env) t.statements in
    subst (λ (s : Text). Alike n s (file_types t) (file_generated t) ms)
    (package_is (package_of t) has_name)
    (subst (λ (s : Scope). Alike n (absolute_text s) (flat_map (statement_types s) t.statements)
    (flat_map (statement_generated s) t.statements) ms) scoped told)
