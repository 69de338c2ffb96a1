-- A file's descriptor has the names that its tree has, each as often.
use Rattle.std.proofs.Common.{◌≡◌, ℕ, ◌+◌, List, [], ◌∷◌, ◌++◌, map, flat_map, if◌then◌else◌, refl}
use Rattle.std.proofs.Common.{sym, ap, subst, ◌∙◌, arith}
use Rattle.std.proofs.lemmas.List.{append-nil, map-append}
use Rattle.std.proofs.lemmas.Grind.{flat_map-append}
use Rattle.protobuf_parse_base.specs.Names.{absolute_text}
use Rattle.protobuf_parse_syntax.specs.Trees.{TypeSyntax, scalar, map_of, named}
use Rattle.protobuf_parse_syntax.specs.Trees.{FieldStatementSyntax, field, group}
use Rattle.protobuf_parse_syntax.specs.Trees.{MessageStatementSyntax, message_field, message_oneof}
use Rattle.protobuf_parse_syntax.specs.Trees.{message_extend, message_message, message_enum}
use Rattle.protobuf_parse_syntax.specs.Trees.{MessageStatementList, no_statements, more_statements}
use Rattle.protobuf_parse_syntax.specs.Trees.{StatementSyntax, file_message, file_enum, file_extend}
use Rattle.protobuf_parse_syntax.specs.Trees.{nested_message, package_of}
use Rattle.protobuf_parse_model.specs.Statements.{message_body, entry_name, is_map, oneof_fields}
use Rattle.protobuf_parse_model.specs.Statements.{groups}
use Rattle.protobuf_parse_model.specs.Descriptors.{Text, EnumDescriptor, MessageDescriptor}
use Rattle.protobuf_parse_model.specs.Declarations as names
use Rattle.protobuf_parse_model.specs.Declarations.{Scope, Declared, DeclaredType, full_name}
use Rattle.protobuf_parse_model.specs.Declarations.{file_types, file_generated, generated_by}
use Rattle.protobuf_parse_model.specs.Declarations.{generated_of, generated_in, types_of, types_in}
use Rattle.protobuf_parse_model.specs.Declarations.{statement_types, statement_generated}
use Rattle.protobuf_parse_model.specs.Linking.{occurrences}
use Rattle.protobuf_parse_model.specs.Environment.{Environment, env_inside}
use Rattle.protobuf_parse_elaboration.specs.Messages as bodies
use Rattle.protobuf_parse_elaboration.specs.Messages.{messages_behind, entries_of, message_from}
use Rattle.protobuf_parse_elaboration.specs.Messages.{nested_of, nested_in}
use Rattle.protobuf_parse_elaboration.specs.FileDescriptor as files
use Rattle.protobuf_parse_elaboration.proofs.Orders.{count-append}
use Rattle.protobuf_parse_wire.specs.Declarations.{Declaration, name_within, declared_message}
use Rattle.protobuf_parse_wire.specs.Declarations.{package_scope}
use Rattle.protobuf_parse_options.specs.OptionFields.{enum_in}
use Rattle.protobuf_parse_options.specs.CountedAlike.{TypesAreCountedAlike}
use Rattle.protobuf_parse_options.proofs.Agreement.{scope_inside, package_is}
use Rattle.protobuf_parse_options.proofs.AgreementBack.{nested_are}

-- ---- names in descriptors

-- of enums in a scope
abbrev enums_within : Text → List EnumDescriptor → List Text
enums_within scope es = map (λ (e : EnumDescriptor). name_within scope e.name) es

-- of a message and its enums
abbrev names_of : Declaration → List Text
names_of d = d.name ∷ enums_within d.name d.parts.enum_type

-- what is told of messages in a scope and of all that stands inside them
abbrev pub told_within : (Declaration → List Text) → Text → List MessageDescriptor → List Text
told_within tell scope ms = flat_map tell (flat_map (declared_message scope) ms)

pub told-append : (tell : Declaration → List Text) (scope : Text) (ms ns : List MessageDescriptor)
    → told_within tell scope (ms ++ ns) ≡ told_within tell scope ms ++ told_within tell scope ns
told-append tell scope ms ns =
    ap (flat_map tell) (flat_map-append (declared_message scope) ms ns)
    ∙ flat_map-append tell (flat_map (declared_message scope) ms)
    (flat_map (declared_message scope) ns)

abbrev messages_within : Text → List MessageDescriptor → List Text
messages_within scope ms = told_within names_of scope ms

-- of a message: its own, and those in its scope
message-names : (env : Environment) (name : Text) (body : List MessageStatementSyntax)
    (ns : List MessageDescriptor)
    → messages_within (absolute_text env.scope) (message_from env name body ns ∷ [])
    ≡ full_name env.scope name
    ∷ (enums_within (absolute_text (names.inside env.scope name))
    (flat_map (bodies.enums_of (env_inside env name)) body)
    ++ messages_within (absolute_text (names.inside env.scope name)) ns)
message-names env name body ns =
    let inner : Text = name_within (absolute_text env.scope) name in
    let es : List EnumDescriptor = flat_map (bodies.enums_of (env_inside env name)) body in
    ap (flat_map names_of)
    (append-nil (declared_message (absolute_text env.scope) (message_from env name body ns)))
    ∙ ap (λ (ds : List Declaration). inner ∷ (enums_within inner es ++ flat_map names_of ds))
    (nested_are inner ns)
    ∙ ap (λ (s : Text). inner ∷ (enums_within s es ++ messages_within s ns))
    (sym (scope_inside env.scope name))

-- ---- behind maps and groups

entry-names : (env : Environment) (name : Text) (t : TypeSyntax)
    → messages_within (absolute_text env.scope) (entries_of env name t)
    ≡ (if is_map t then full_name env.scope (entry_name name) ∷ [] else [])
entry-names env name (map_of key value) = refl
entry-names env name (scalar s) = refl
entry-names env name (named n) = refl

behind-names : (env : Environment) (f : FieldStatementSyntax)
    → messages_within (absolute_text env.scope) (messages_behind env f) ≡ generated_by env.scope f
behind-names env (field f) = entry-names env f.name f.type_
behind-names env (group place label name number fields) = refl

behind-all : (env : Environment) (fs : List FieldStatementSyntax)
    → messages_within (absolute_text env.scope) (flat_map (messages_behind env) fs)
    ≡ flat_map (generated_by env.scope) fs
behind-all env [] = refl
behind-all env (f ∷ fs) =
    told-append names_of (absolute_text env.scope) (messages_behind env f)
    (flat_map (messages_behind env) fs)
    ∙ ap (λ (ns : List Text). ns
    ++ messages_within (absolute_text env.scope)
    (flat_map (messages_behind env) fs)) (behind-names env f)
    ∙ ap (λ (ns : List Text). generated_by env.scope f ++ ns) (behind-all env fs)

abbrev named_types : List DeclaredType → List Text
named_types ds = map (λ (d : DeclaredType). d.name) ds

module _ (n : Text) where
  -- ---- counted alike

  -- the name stands as often among what statements declare and generate as among what they become
  abbrev Alike : Text → List DeclaredType → List Text → List EnumDescriptor → List MessageDescriptor
      → Type 0
  Alike scope told generated es ms = occurrences n (named_types told) + occurrences n generated
      ≡ occurrences n (enums_within scope es) + occurrences n (messages_within scope ms)

  both-alike : (scope : Text) (told told' : List DeclaredType) (generated generated' : List Text)
      (es es' : List EnumDescriptor) (ms ms' : List MessageDescriptor)
      → Alike scope told generated es ms → Alike scope told' generated' es' ms'
      → Alike scope (told ++ told') (generated ++ generated') (es ++ es') (ms ++ ms')
  both-alike scope told told' generated generated' es es' ms ms' h k =
      sums _ _ _ _ _ _ _ _ _ _ _ _
      (ap (occurrences n) (map-append (λ (d : DeclaredType). d.name) told told')
      ∙ count-append n (named_types told) (named_types told'))
      (count-append n generated generated')
      (ap (occurrences n) (map-append (λ (e : EnumDescriptor). name_within scope e.name) es es')
      ∙ count-append n (enums_within scope es) (enums_within scope es'))
      (ap (occurrences n) (told-append names_of scope ms ms')
      ∙ count-append n (messages_within scope ms) (messages_within scope ms'))
      h k
    where
      sums : (t g e m t1 t2 g1 g2 e1 e2 m1 m2 : ℕ) → t ≡ t1 + t2 → g ≡ g1 + g2 → e ≡ e1 + e2
          → m ≡ m1 + m2 → t1 + g1 ≡ e1 + m1 → t2 + g2 ≡ e2 + m2 → t + g ≡ e + m
      sums t g e m t1 t2 g1 g2 e1 e2 m1 m2 a b c d h k = omega arith

  -- fields, of which only the messages behind them count
  fields-alike : (env : Environment) (fs : List FieldStatementSyntax)
      → Alike (absolute_text env.scope) [] (flat_map (generated_by env.scope) fs) []
      (flat_map (messages_behind env) fs)
  fields-alike env fs = sym (ap (λ (ns : List Text). 0 + occurrences n ns) (behind-all env fs))

  -- a message, by what stands inside it
  message-alike : (env : Environment) (name : Text) (body : List MessageStatementSyntax)
      (told : List DeclaredType) (generated : List Text) (ns : List MessageDescriptor)
      → Alike (absolute_text (names.inside env.scope name)) told generated
      (flat_map (bodies.enums_of (env_inside env name)) body) ns
      → Alike (absolute_text env.scope)
      (names.declare env.scope name names.a_message ∷ told) generated []
      (message_from env name body ns ∷ [])
  message-alike env name body told generated ns h =
      let s : Text = absolute_text (names.inside env.scope name) in
      let es : List EnumDescriptor = flat_map (bodies.enums_of (env_inside env name)) body in
      let own : List Text = full_name env.scope name ∷ [] in
      sums _ _ _ _ _ _ _ _
      (count-append n own (named_types told))
      (ap (occurrences n) (message-names env name body ns)
      ∙ count-append n own (enums_within s es ++ messages_within s ns))
      (count-append n (enums_within s es) (messages_within s ns))
      h
    where
      sums : (t o t1 g m em e1 m1 : ℕ) → t ≡ o + t1 → m ≡ o + em → em ≡ e1 + m1 → t1 + g ≡ e1 + m1
          → t + g ≡ 0 + m
      sums t o t1 g m em e1 m1 a b c h = omega arith

  mutual
    statement-alike : (env : Environment) (s : MessageStatementSyntax)
        → Alike (absolute_text env.scope) (types_of env.scope s) (generated_of env.scope s)
        (bodies.enums_of env s) (nested_of env s)
    statement-alike env (message_message place name body) =
        message-alike env name (message_body body) (types_in (names.inside env.scope name) body)
        (generated_in (names.inside env.scope name) body) (nested_in (env_inside env name) body)
        (list-alike (env_inside env name) body)
    statement-alike env (message_enum e) = refl
    statement-alike env (message_field f) =
        sym (ap (λ (ns : List Text). 0 + occurrences n ns) (behind-names env f))
    statement-alike env (message_oneof o) = fields-alike env (flat_map oneof_fields o.body)
    statement-alike env (message_extend e) = fields-alike env (flat_map groups e.fields)
    statement-alike env _ = refl

    list-alike : (env : Environment) (ss : MessageStatementList)
        → Alike (absolute_text env.scope) (types_in env.scope ss) (generated_in env.scope ss)
        (flat_map (bodies.enums_of env) (message_body ss)) (nested_in env ss)
    list-alike env no_statements = refl
    list-alike env (more_statements s ss) =
        both-alike (absolute_text env.scope) (types_of env.scope s) (types_in env.scope ss)
        (generated_of env.scope s) (generated_in env.scope ss) (bodies.enums_of env s)
        (flat_map (bodies.enums_of env) (message_body ss)) (nested_of env s) (nested_in env ss)
        (statement-alike env s) (list-alike env ss)

  -- of each of a list
  each-alike : {S : Type 0} (scope : Text) (told : S → List DeclaredType)
      (generated : S → List Text) (es : S → List EnumDescriptor) (ms : S → List MessageDescriptor)
      → ((s : S) → Alike scope (told s) (generated s) (es s) (ms s)) → (ss : List S)
      → Alike scope (flat_map told ss) (flat_map generated ss) (flat_map es ss) (flat_map ms ss)
  each-alike scope told generated es ms each [] = refl
  each-alike scope told generated es ms each (s ∷ ss) =
      both-alike scope (told s) (flat_map told ss) (generated s) (flat_map generated ss) (es s)
      (flat_map es ss) (ms s) (flat_map ms ss) (each s)
      (each-alike scope told generated es ms each ss)

  file_statement-alike : (env : Environment) (s : StatementSyntax)
      → Alike (absolute_text env.scope) (statement_types env.scope s)
      (statement_generated env.scope s) (files.file_enums_of env s) (files.file_messages_of env s)
  file_statement-alike env (file_message m) = statement-alike env (nested_message m)
  file_statement-alike env (file_enum e) = refl
  file_statement-alike env (file_extend e) = fields-alike env (flat_map groups e.fields)
  file_statement-alike env _ = refl

  -- ---- messages apart from enums

  abbrev enums_in : List Declaration → List (Declared EnumDescriptor)
  enums_in ds = flat_map (λ (d : Declaration). map (enum_in d.name) d.parts.enum_type) ds

  abbrev named_enums : List (Declared EnumDescriptor) → List Text
  named_enums es = map (λ (e : Declared EnumDescriptor). e.name) es

  enums-named : (scope : Text) (es : List EnumDescriptor)
      → named_enums (map (enum_in scope) es) ≡ enums_within scope es
  enums-named scope [] = refl
  enums-named scope (e ∷ es) =
      ap (λ (ns : List Text). name_within scope e.name ∷ ns) (enums-named scope es)

  apart : (ds : List Declaration)
      → occurrences n (map (λ (d : Declaration). d.name) ds) + occurrences n
      (named_enums (enums_in ds)) ≡ occurrences n (flat_map names_of ds)
  apart [] = refl
  apart (d ∷ ds) =
      sums _ _ _ _ _ _ _ _ _
      (count-append n (d.name ∷ []) (map (λ (x : Declaration). x.name) ds))
      (ap (occurrences n)
      (map-append (λ (e : Declared EnumDescriptor). e.name)
      (map (enum_in d.name) d.parts.enum_type) (enums_in ds)
      ∙ ap (λ (ns : List Text). ns ++ named_enums (enums_in ds))
      (enums-named d.name d.parts.enum_type))
      ∙ count-append n (enums_within d.name d.parts.enum_type) (named_enums (enums_in ds)))
      (count-append n (d.name ∷ []) (enums_within d.name d.parts.enum_type ++ flat_map names_of ds))
      (count-append n (enums_within d.name d.parts.enum_type) (flat_map names_of ds))
      (apart ds)
    where
      sums : (a o a1 b e b1 c r c1 : ℕ) → a ≡ o + a1 → b ≡ e + b1 → c ≡ o + r → r ≡ e + c1
          → a1 + b1 ≡ c1 → a + b ≡ c
      sums a o a1 b e b1 c r c1 h i j k l = omega arith

  -- ---- a file

  all-apart : (scope : Text) (es : List EnumDescriptor) (ms : List MessageDescriptor)
      → occurrences n (map (λ (d : Declaration). d.name) (flat_map (declared_message scope) ms)
      ++ named_enums (enums_in (flat_map (declared_message scope) ms) ++ map (enum_in scope) es))
      ≡ occurrences n (enums_within scope es) + occurrences n (messages_within scope ms)
  all-apart scope es ms =
      let ds : List Declaration = flat_map (declared_message scope) ms in
      let enums : List Text = named_enums (enums_in ds) in
      sums _ _ _ _ _ _
      (count-append n (map (λ (d : Declaration). d.name) ds)
      (named_enums (enums_in ds ++ map (enum_in scope) es)))
      (ap (occurrences n)
      (map-append (λ (e : Declared EnumDescriptor). e.name) (enums_in ds)
      (map (enum_in scope) es) ∙ ap (λ (ns : List Text). enums ++ ns) (enums-named scope es))
      ∙ count-append n enums (enums_within scope es))
      (apart ds)
    where
      sums : (c m e e1 e2 t : ℕ) → c ≡ m + e → e ≡ e1 + e2 → m + e1 ≡ t → c ≡ e2 + t
      sums c m e e1 e2 t h k l = omega arith

pub types_are_counted_alike : TypesAreCountedAlike
types_are_counted_alike env path t n scoped has_name =
    let ms : List MessageDescriptor = flat_map (files.file_messages_of env) t.statements in
    let es : List EnumDescriptor = flat_map (files.file_enums_of env) t.statements in
    let told : Alike n (absolute_text env.scope) (flat_map (statement_types env.scope) t.statements)
    (flat_map (statement_generated env.scope) t.statements) es ms =
    each-alike n (absolute_text env.scope) (statement_types env.scope)
    (statement_generated env.scope) (files.file_enums_of env) (files.file_messages_of env)
    (file_statement-alike n env) t.statements in
    let here : Alike n (package_scope (package_of t)) (file_types t) (file_generated t) es ms =
    subst (λ (s : Text). Alike n s (file_types t) (file_generated t) es ms)
    (package_is (package_of t) has_name)
    (subst (λ (s : Scope). Alike n (absolute_text s) (flat_map (statement_types s) t.statements)
    (flat_map (statement_generated s) t.statements) es ms) scoped told) in
    all-apart n (package_scope (package_of t)) es ms ∙ sym here
    ∙ sym (count-append n (named_types (file_types t)) (file_generated t))
