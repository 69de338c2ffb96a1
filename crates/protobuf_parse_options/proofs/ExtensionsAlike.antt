-- A file's descriptor has the names of extensions that its tree has, each as often.
use Rattle.std.proofs.Common.{◌≡◌, ℕ, ◌+◌, List, [], ◌∷◌, ◌++◌, map, flat_map, refl, sym, ap, subst}
use Rattle.std.proofs.Common.{◌∙◌, arith}
use Rattle.std.proofs.lemmas.List.{append-nil, map-append}
use Rattle.protobuf_parse_base.specs.Names.{absolute_text}
use Rattle.protobuf_parse_syntax.specs.Trees.{TypeSyntax, scalar, map_of, named}
use Rattle.protobuf_parse_syntax.specs.Trees.{FieldStatementSyntax, field, group, ExtendSyntax}
use Rattle.protobuf_parse_syntax.specs.Trees.{MessageStatementSyntax, message_field, message_oneof}
use Rattle.protobuf_parse_syntax.specs.Trees.{message_extend, message_message, MessageStatementList}
use Rattle.protobuf_parse_syntax.specs.Trees.{no_statements, more_statements, StatementSyntax}
use Rattle.protobuf_parse_syntax.specs.Trees.{nested_message, file_message, file_extend, package_of}
use Rattle.protobuf_parse_model.specs.Statements.{message_body, oneof_fields, groups}
use Rattle.protobuf_parse_model.specs.Descriptors.{Text, FieldDescriptor, MessageDescriptor}
use Rattle.protobuf_parse_model.specs.Declarations as names
use Rattle.protobuf_parse_model.specs.Declarations.{Scope, Declared, DeclaredExtension}
use Rattle.protobuf_parse_model.specs.Declarations.{extend_extensions, file_extensions}
use Rattle.protobuf_parse_model.specs.Declarations.{statement_extensions}
use Rattle.protobuf_parse_model.specs.Linking.{occurrences}
use Rattle.protobuf_parse_model.specs.Environment.{Environment, env_inside}
use Rattle.protobuf_parse_elaboration.specs.Fields.{field_statement_of}
use Rattle.protobuf_parse_elaboration.specs.Messages as bodies
use Rattle.protobuf_parse_elaboration.specs.Messages.{messages_behind, entries_of, extending}
use Rattle.protobuf_parse_elaboration.specs.Messages.{extend_fields, message_from, nested_of}
use Rattle.protobuf_parse_elaboration.specs.Messages.{nested_in}
use Rattle.protobuf_parse_elaboration.specs.FileDescriptor as files
use Rattle.protobuf_parse_elaboration.proofs.Orders.{count-append}
use Rattle.protobuf_parse_wire.specs.Declarations.{Declaration, name_within, declared_message}
use Rattle.protobuf_parse_wire.specs.Declarations.{package_scope, extensions_within}
use Rattle.protobuf_parse_options.specs.CountedAlike.{ExtensionsAreCountedAlike}
use Rattle.protobuf_parse_options.proofs.Agreement.{scope_inside, package_is}
use Rattle.protobuf_parse_options.proofs.AgreementBack.{nested_are}
use Rattle.protobuf_parse_options.proofs.NamesAlike.{told_within, told-append}

-- ---- names in descriptors

-- of extensions in a scope
abbrev fields_within : Text → List FieldDescriptor → List Text
fields_within scope fs = map (λ (f : FieldDescriptor). name_within scope f.name) fs

-- of those inside a message
abbrev names_of : Declaration → List Text
names_of d = fields_within d.name d.parts.extension

-- of those inside messages in a scope
abbrev messages_within : Text → List MessageDescriptor → List Text
messages_within scope ms = told_within names_of scope ms

-- inside a message: its own, and those of the messages in its scope
message-names : (env : Environment) (name : Text) (body : List MessageStatementSyntax)
    (ns : List MessageDescriptor)
    → messages_within (absolute_text env.scope) (message_from env name body ns ∷ [])
    ≡ fields_within (absolute_text (names.inside env.scope name))
    (flat_map (bodies.extended_of (env_inside env name)) body)
    ++ messages_within (absolute_text (names.inside env.scope name)) ns
message-names env name body ns =
    let inner : Text = name_within (absolute_text env.scope) name in
    let own : List FieldDescriptor = flat_map (bodies.extended_of (env_inside env name)) body in
    ap (flat_map names_of)
    (append-nil (declared_message (absolute_text env.scope) (message_from env name body ns)))
    ∙ ap (λ (ds : List Declaration). fields_within inner own ++ flat_map names_of ds)
    (nested_are inner ns)
    ∙ ap (λ (s : Text). fields_within s own ++ messages_within s ns)
    (sym (scope_inside env.scope name))

-- ---- behind maps and groups there are none

none-in_entry : (env : Environment) (name : Text) (t : TypeSyntax)
    → messages_within (absolute_text env.scope) (entries_of env name t) ≡ []
none-in_entry env name (map_of key value) = refl
none-in_entry env name (scalar s) = refl
none-in_entry env name (named n) = refl

none-behind : (env : Environment) (f : FieldStatementSyntax)
    → messages_within (absolute_text env.scope) (messages_behind env f) ≡ []
none-behind env (field f) = none-in_entry env f.name f.type_
none-behind env (group place label name number fields) = refl

none-behind_all : (env : Environment) (fs : List FieldStatementSyntax)
    → messages_within (absolute_text env.scope) (flat_map (messages_behind env) fs) ≡ []
none-behind_all env [] = refl
none-behind_all env (f ∷ fs) =
    told-append names_of (absolute_text env.scope) (messages_behind env f)
    (flat_map (messages_behind env) fs)
    ∙ ap (λ (ns : List Text). ns
    ++ messages_within (absolute_text env.scope)
    (flat_map (messages_behind env) fs)) (none-behind env f)
    ∙ none-behind_all env fs

-- ---- counted alike

abbrev named_extensions : List DeclaredExtension → List Text
named_extensions es = map (λ (e : DeclaredExtension). e.name) es

-- the fields of an `extend`
extend-names : (env : Environment) (e : ExtendSyntax)
    → named_extensions (extend_extensions env.scope e)
    ≡ fields_within (absolute_text env.scope) (extend_fields env e)
extend-names env e = each e.fields
  where
    each : (fs : List FieldStatementSyntax)
        → named_extensions (extend_extensions env.scope (record e { fields = fs }))
        ≡ fields_within (absolute_text env.scope)
        (map (field_statement_of env (extending env e.extendee)) fs)
    each [] = refl
    each (field f ∷ fs) =
        ap (λ (ns : List Text). name_within (absolute_text env.scope) f.name ∷ ns) (each fs)
    each (group place label name number inner ∷ fs) =
        ap (λ (ns : List Text). name_within (absolute_text env.scope)
        (field_statement_of env (extending env e.extendee)
        (group place label name number inner)).name ∷ ns) (each fs)

module _ (n : Text) where
  -- the name stands as often among what statements declare as among what they become
  abbrev Alike : Text → List DeclaredExtension → List FieldDescriptor → List MessageDescriptor
      → Type 0
  Alike scope told own ms = occurrences n (named_extensions told)
      ≡ occurrences n (fields_within scope own) + occurrences n (messages_within scope ms)

  both-alike : (scope : Text) (told told' : List DeclaredExtension)
      (own own' : List FieldDescriptor) (ms ms' : List MessageDescriptor) → Alike scope told own ms
      → Alike scope told' own' ms' → Alike scope (told ++ told') (own ++ own') (ms ++ ms')
  both-alike scope told told' own own' ms ms' h k =
      sums _ _ _ _ _ _ _ _ _
      (ap (occurrences n) (map-append (λ (e : DeclaredExtension). e.name) told told')
      ∙ count-append n (named_extensions told) (named_extensions told'))
      (ap (occurrences n) (map-append (λ (f : FieldDescriptor). name_within scope f.name) own own')
      ∙ count-append n (fields_within scope own) (fields_within scope own'))
      (ap (occurrences n) (told-append names_of scope ms ms')
      ∙ count-append n (messages_within scope ms) (messages_within scope ms'))
      h k
    where
      sums : (t e m t1 t2 e1 e2 m1 m2 : ℕ) → t ≡ t1 + t2 → e ≡ e1 + e2 → m ≡ m1 + m2 → t1 ≡ e1 + m1
          → t2 ≡ e2 + m2 → t ≡ e + m
      sums t e m t1 t2 e1 e2 m1 m2 a b c h k = omega arith

  -- messages in which there are none
  none-alike : (scope : Text) (ms : List MessageDescriptor) → messages_within scope ms ≡ []
      → Alike scope [] [] ms
  none-alike scope ms none = sym (ap (λ (ns : List Text). 0 + occurrences n ns) none)

  -- an `extend`, with the messages behind its groups
  extend-alike : (env : Environment) (e : ExtendSyntax)
      → Alike (absolute_text env.scope) (extend_extensions env.scope e) (extend_fields env e)
      (flat_map (messages_behind env) (flat_map groups e.fields))
  extend-alike env e =
      sums _ _ _ (ap (occurrences n) (extend-names env e))
      (ap (occurrences n) (none-behind_all env (flat_map groups e.fields)))
    where
      sums : (t f m : ℕ) → t ≡ f → m ≡ 0 → t ≡ f + m
      sums t f m h k = omega arith

  -- a message, by what stands inside it
  message-alike : (env : Environment) (name : Text) (body : List MessageStatementSyntax)
      (told : List DeclaredExtension) (ns : List MessageDescriptor)
      → Alike (absolute_text (names.inside env.scope name)) told
      (flat_map (bodies.extended_of (env_inside env name)) body) ns
      → Alike (absolute_text env.scope) told [] (message_from env name body ns ∷ [])
  message-alike env name body told ns h =
      let s : Text = absolute_text (names.inside env.scope name) in
      let own : List FieldDescriptor = flat_map (bodies.extended_of (env_inside env name)) body in
      sums _ _ _ _
      (ap (occurrences n) (message-names env name body ns)
      ∙ count-append n (fields_within s own) (messages_within s ns))
      h
    where
      sums : (t m e1 m1 : ℕ) → m ≡ e1 + m1 → t ≡ e1 + m1 → t ≡ 0 + m
      sums t m e1 m1 a h = omega arith

  mutual
    statement-alike : (env : Environment) (s : MessageStatementSyntax)
        → Alike (absolute_text env.scope) (names.extensions_of env.scope s)
        (bodies.extended_of env s) (nested_of env s)
    statement-alike env (message_message place name body) =
        message-alike env name (message_body body)
        (names.extensions_in (names.inside env.scope name) body)
        (nested_in (env_inside env name) body)
        (list-alike (env_inside env name) body)
    statement-alike env (message_extend e) = extend-alike env e
    statement-alike env (message_field f) =
        none-alike (absolute_text env.scope) (messages_behind env f) (none-behind env f)
    statement-alike env (message_oneof o) =
        none-alike (absolute_text env.scope)
        (flat_map (messages_behind env) (flat_map oneof_fields o.body))
        (none-behind_all env (flat_map oneof_fields o.body))
    statement-alike env _ = refl

    list-alike : (env : Environment) (ss : MessageStatementList)
        → Alike (absolute_text env.scope) (names.extensions_in env.scope ss)
        (flat_map (bodies.extended_of env) (message_body ss)) (nested_in env ss)
    list-alike env no_statements = refl
    list-alike env (more_statements s ss) =
        both-alike (absolute_text env.scope) (names.extensions_of env.scope s)
        (names.extensions_in env.scope ss) (bodies.extended_of env s)
        (flat_map (bodies.extended_of env) (message_body ss)) (nested_of env s) (nested_in env ss)
        (statement-alike env s) (list-alike env ss)

  -- of each of a list
  each-alike : {S : Type 0} (scope : Text) (told : S → List DeclaredExtension)
      (own : S → List FieldDescriptor) (ms : S → List MessageDescriptor)
      → ((s : S) → Alike scope (told s) (own s) (ms s)) → (ss : List S)
      → Alike scope (flat_map told ss) (flat_map own ss) (flat_map ms ss)
  each-alike scope told own ms each [] = refl
  each-alike scope told own ms each (s ∷ ss) =
      both-alike scope (told s) (flat_map told ss) (own s) (flat_map own ss) (ms s) (flat_map ms ss)
      (each s) (each-alike scope told own ms each ss)

  file_statement-alike : (env : Environment) (s : StatementSyntax)
      → Alike (absolute_text env.scope) (statement_extensions env.scope s)
      (files.file_extensions_of env s) (files.file_messages_of env s)
  file_statement-alike env (file_message m) = statement-alike env (nested_message m)
  file_statement-alike env (file_extend e) = extend-alike env e
  file_statement-alike env _ = refl

-- ---- a file

-- the names alone
fields-named : (scope : Text) (fs : List FieldDescriptor)
    → map (λ (d : Declared FieldDescriptor). d.name) (extensions_within scope fs)
    ≡ fields_within scope fs
fields-named scope [] = refl
fields-named scope (f ∷ fs) =
    ap (λ (ns : List Text). name_within scope f.name ∷ ns) (fields-named scope fs)

inner-named : (ds : List Declaration)
    → map (λ (d : Declared FieldDescriptor). d.name)
    (flat_map (λ (d : Declaration). extensions_within d.name d.parts.extension) ds)
    ≡ flat_map names_of ds
inner-named [] = refl
inner-named (d ∷ ds) =
    let others : List (Declared FieldDescriptor) =
    flat_map (λ (x : Declaration). extensions_within x.name x.parts.extension) ds in
    map-append (λ (x : Declared FieldDescriptor). x.name)
    (extensions_within d.name d.parts.extension) others
    ∙ ap (λ (ns : List Text). ns ++ map (λ (x : Declared FieldDescriptor). x.name) others)
    (fields-named d.name d.parts.extension)
    ∙ ap (λ (ns : List Text). names_of d ++ ns) (inner-named ds)

all-named : (n scope : Text) (own : List FieldDescriptor) (ms : List MessageDescriptor)
    → occurrences n
    (map (λ (d : Declared FieldDescriptor). d.name)
    (flat_map (λ (d : Declaration). extensions_within d.name d.parts.extension)
    (flat_map (declared_message scope) ms) ++ extensions_within scope own))
    ≡ occurrences n (fields_within scope own) + occurrences n (messages_within scope ms)
all-named n scope own ms =
    let inner : List (Declared FieldDescriptor) =
    flat_map (λ (d : Declaration). extensions_within d.name d.parts.extension)
    (flat_map (declared_message scope) ms) in
    sums _ _ _ _ _
    (ap (occurrences n)
    (map-append (λ (d : Declared FieldDescriptor). d.name) inner (extensions_within scope own))
    ∙ count-append n (map (λ (d : Declared FieldDescriptor). d.name) inner)
    (map (λ (d : Declared FieldDescriptor). d.name) (extensions_within scope own)))
    (ap (occurrences n) (inner-named (flat_map (declared_message scope) ms)))
    (ap (occurrences n) (fields-named scope own))
  where
    sums : (c i o f m : ℕ) → c ≡ i + o → i ≡ m → o ≡ f → c ≡ f + m
    sums c i o f m h k l = omega arith

pub extensions_are_counted_alike : ExtensionsAreCountedAlike
extensions_are_counted_alike env path t n scoped has_name =
    let ms : List MessageDescriptor = flat_map (files.file_messages_of env) t.statements in
    let own : List FieldDescriptor = flat_map (files.file_extensions_of env) t.statements in
    let told : Alike n (absolute_text env.scope)
    (flat_map (statement_extensions env.scope) t.statements) own ms =
    each-alike n (absolute_text env.scope) (statement_extensions env.scope)
    (files.file_extensions_of env) (files.file_messages_of env)
    (file_statement-alike n env) t.statements in
    let here : Alike n (package_scope (package_of t)) (file_extensions t) own ms =
    subst (λ (s : Text). Alike n s (file_extensions t) own ms) (package_is (package_of t) has_name)
    (subst (λ (s : Scope). Alike n (absolute_text s)
    (flat_map (statement_extensions s) t.statements) own ms) scoped told) in
    all-named n (package_scope (package_of t)) own ms ∙ sym here
