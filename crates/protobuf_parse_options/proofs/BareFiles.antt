-- Custom options change nothing in the descriptor of a file but options.
use Rattle.std.proofs.Common.{◌≡◌, ℕ, ◌+◌, List, [], ◌∷◌, ◌++◌, map, flat_map, length, None}
use Rattle.std.proofs.Common.{if◌then◌else◌, refl, sym, ap, ◌∙◌}
use Rattle.std.proofs.lemmas.List.{map-append}
use Rattle.protobuf_parse_syntax.specs.Trees.{FieldStatementSyntax, field, group, TypeSyntax}
use Rattle.protobuf_parse_syntax.specs.Trees.{scalar, map_of, named, EnumValueSyntax, EnumSyntax}
use Rattle.protobuf_parse_syntax.specs.Trees.{MessageStatementSyntax, message_oneof, message_extend}
use Rattle.protobuf_parse_syntax.specs.Trees.{message_message, message_enum, message_field}
use Rattle.protobuf_parse_syntax.specs.Trees.{MessageStatementList, no_statements, more_statements}
use Rattle.protobuf_parse_syntax.specs.Trees.{nested_message, MethodSyntax, ServiceSyntax}
use Rattle.protobuf_parse_syntax.specs.Trees.{StatementSyntax, file_message, file_enum, file_extend}
use Rattle.protobuf_parse_syntax.specs.Trees.{file_service, FileSyntax}
use Rattle.protobuf_parse_model.specs.Descriptors.{Text, FieldDescriptor, EnumValueDescriptor}
use Rattle.protobuf_parse_model.specs.Descriptors.{MessageDescriptor, messages, messages_of_list}
use Rattle.protobuf_parse_model.specs.Descriptors.{MethodDescriptor}
use Rattle.protobuf_parse_model.specs.Statements.{group_body, message_body, oneof_fields, groups}
use Rattle.protobuf_parse_model.specs.Environment.{Environment, Customs, env_inside}
use Rattle.protobuf_parse_elaboration.specs.Fields.{FieldOwner, of_message, field_statement_of}
use Rattle.protobuf_parse_elaboration.specs.Enums.{enum_values, value_of, enum_of}
use Rattle.protobuf_parse_elaboration.specs.Services.{methods_in, method_of, service_of}
use Rattle.protobuf_parse_elaboration.specs.Messages as bodies
use Rattle.protobuf_parse_elaboration.specs.Messages.{message_with, entries_of, messages_behind}
use Rattle.protobuf_parse_elaboration.specs.Messages.{has_own_oneof, oneofs_of, at_oneof, fields_of}
use Rattle.protobuf_parse_elaboration.specs.Messages.{fields_from, extending, message_from}
use Rattle.protobuf_parse_elaboration.specs.Messages.{nested_of, nested_in}
use Rattle.protobuf_parse_elaboration.specs.FileDescriptor as files
use Rattle.protobuf_parse_elaboration.specs.FileDescriptor.{file_messages_of, services_of, file_of}
use Rattle.protobuf_parse_elaboration.proofs.SameNames.{with_customs}
use Rattle.protobuf_parse_options.specs.WithoutOptions.{bare_field, bare_oneof, bare_value}
use Rattle.protobuf_parse_options.specs.WithoutOptions.{bare_enum, bare_message, bare_messages}
use Rattle.protobuf_parse_options.specs.WithoutOptions.{bare_method, bare_service, bare_file}

-- ---- lists, alike where f shows them so

both-alike : {A B : Type 0} (f : A → B) (xs ys vs ws : List A) → map f xs ≡ map f vs
    → map f ys ≡ map f ws → map f (xs ++ ys) ≡ map f (vs ++ ws)
both-alike f xs ys vs ws e h =
    map-append f xs ys
    ∙ ap (λ zs. zs ++ map f ys) e
    ∙ ap (λ zs. map f vs ++ zs) h
    ∙ sym (map-append f vs ws)

-- lists of all that elements give
pub all-alike : {X A B : Type 0} (f : A → B) (g h : X → List A)
    → ((x : X) → map f (g x) ≡ map f (h x)) → (xs : List X)
    → map f (flat_map g xs) ≡ map f (flat_map h xs)
all-alike f g h each [] = refl
all-alike f g h each (x ∷ xs) =
    both-alike f (g x) (flat_map g xs) (h x) (flat_map h xs) (each x) (all-alike f g h each xs)

-- where each gives one
each-alike : {X A B : Type 0} (f : A → B) (g h : X → A) → ((x : X) → f (g x) ≡ f (h x))
    → (xs : List X) → map f (map g xs) ≡ map f (map h xs)
each-alike f g h each [] = refl
each-alike f g h each (x ∷ xs) = ap (λ y. y ∷ map f (map g xs)) (each x)
    ∙ ap (λ ys. f (h x) ∷ ys) (each-alike f g h each xs)

messages-listed : (ms : List MessageDescriptor)
    → bare_messages (messages_of_list ms) ≡ messages_of_list (map bare_message ms)
messages-listed [] = refl
messages-listed (m ∷ ms) = ap (messages (bare_message m)) (messages-listed ms)

module _ (one other : Customs) where
  -- the environment with the custom options of the one, and of the other
  abbrev by_one : Environment → Environment
  by_one env = with_customs one env

  abbrev by_other : Environment → Environment
  by_other env = with_customs other env

  -- ---- fields

  field-alike : (env : Environment) (p : FieldOwner) (s : FieldStatementSyntax)
      → bare_field (field_statement_of (by_one env) p s)
      ≡ bare_field (field_statement_of (by_other env) p s)
  field-alike env p (field f) = refl
  field-alike env p (group at label name number fields) = refl

  fields-alike : (env : Environment) (p : FieldOwner) (ss : List FieldStatementSyntax)
      → map bare_field (map (field_statement_of (by_one env) p) ss)
      ≡ map bare_field (map (field_statement_of (by_other env) p) ss)
  fields-alike env p ss =
      each-alike bare_field (field_statement_of (by_one env) p)
      (field_statement_of (by_other env) p) (field-alike env p) ss

  -- ---- enums and services

  value-alike : (env : Environment) (v : EnumValueSyntax)
      → bare_value (value_of (by_one env) v) ≡ bare_value (value_of (by_other env) v)
  value-alike env v = refl

  enum-alike : (env : Environment) (e : EnumSyntax)
      → bare_enum (enum_of (by_one env) e) ≡ bare_enum (enum_of (by_other env) e)
  enum-alike env e =
      ap (λ (vs : List EnumValueDescriptor). record (bare_enum (enum_of (by_one env) e))
      { value = vs }) (each-alike bare_value (value_of (by_one env)) (value_of (by_other env))
      (value-alike env) (flat_map enum_values e.body))

  method-alike : (env : Environment) (m : MethodSyntax)
      → bare_method (method_of (by_one env) m) ≡ bare_method (method_of (by_other env) m)
  method-alike env m = refl

  service-alike : (env : Environment) (s : ServiceSyntax)
      → bare_service (service_of (by_one env) s) ≡ bare_service (service_of (by_other env) s)
  service-alike env s =
      ap (λ (ms : List MethodDescriptor). record (bare_service (service_of (by_one env) s))
      { method = ms }) (each-alike bare_method (method_of (by_one env))
      (method_of (by_other env)) (method-alike env) (flat_map methods_in s.body))

  -- ---- what stands in a message

  fields-of-alike : (env : Environment) (i : ℕ) (s : MessageStatementSyntax)
      → map bare_field (fields_of (by_one env) i s) ≡ map bare_field (fields_of (by_other env) i s)
  fields-of-alike env i (message_field f) =
      ap (λ (d : FieldDescriptor). d ∷ [])
      (field-alike env (if has_own_oneof env f then at_oneof i else of_message) f)
  fields-of-alike env i (message_oneof o) =
      fields-alike env (at_oneof i) (flat_map oneof_fields o.body)
  fields-of-alike env i _ = refl

  oneofs-alike : (env : Environment) (s : MessageStatementSyntax)
      → map bare_oneof (oneofs_of (by_one env) s) ≡ map bare_oneof (oneofs_of (by_other env) s)
  oneofs-alike env (message_oneof o) = refl
  oneofs-alike env (message_field f) = refl
  oneofs-alike env _ = refl

  -- as many
  oneofs-counted : (env : Environment) (s : MessageStatementSyntax)
      → length (oneofs_of (by_one env) s) ≡ length (oneofs_of (by_other env) s)
  oneofs-counted env (message_oneof o) = refl
  oneofs-counted env (message_field f) = refl
  oneofs-counted env _ = refl

  fields-from-alike : (env : Environment) (i : ℕ) (ss : List MessageStatementSyntax)
      → map bare_field (fields_from (by_one env) i ss)
      ≡ map bare_field (fields_from (by_other env) i ss)
  fields-from-alike env i [] = refl
  fields-from-alike env i (s ∷ ss) =
      both-alike bare_field (fields_of (by_one env) i s)
      (fields_from (by_one env) (i + length (oneofs_of (by_one env) s)) ss)
      (fields_of (by_other env) i s)
      (fields_from (by_other env) (i + length (oneofs_of (by_other env) s)) ss)
      (fields-of-alike env i s)
      (ap (λ (n : ℕ). map bare_field (fields_from (by_one env) (i + n) ss)) (oneofs-counted env s)
      ∙ fields-from-alike env (i + length (oneofs_of (by_other env) s)) ss)

  extensions-alike : (env : Environment) (s : MessageStatementSyntax)
      → map bare_field (bodies.extended_of (by_one env) s)
      ≡ map bare_field (bodies.extended_of (by_other env) s)
  extensions-alike env (message_extend e) = fields-alike env (extending env e.extendee) e.fields
  extensions-alike env _ = refl

  enums-alike : (env : Environment) (s : MessageStatementSyntax)
      → map bare_enum (bodies.enums_of (by_one env) s)
      ≡ map bare_enum (bodies.enums_of (by_other env) s)
  enums-alike env (message_enum e) = ap (λ d. d ∷ []) (enum-alike env e)
  enums-alike env _ = refl

  -- ---- the messages behind maps and groups

  entries-alike : (env : Environment) (name : Text) (t : TypeSyntax)
      → map bare_message (entries_of (by_one env) name t)
      ≡ map bare_message (entries_of (by_other env) name t)
  entries-alike env name (map_of key value) = refl
  entries-alike env name (scalar s) = refl
  entries-alike env name (named n) = refl

  behind-alike : (env : Environment) (s : FieldStatementSyntax)
      → map bare_message (messages_behind (by_one env) s)
      ≡ map bare_message (messages_behind (by_other env) s)
  behind-alike env (field f) = entries-alike env f.name f.type_
  behind-alike env (group at label name number fields) =
      ap (λ (fs : List FieldDescriptor). message_with name fs None ∷ [])
      (fields-alike env of_message (group_body fields))

  behinds-alike : (env : Environment) (ss : List FieldStatementSyntax)
      → map bare_message (flat_map (messages_behind (by_one env)) ss)
      ≡ map bare_message (flat_map (messages_behind (by_other env)) ss)
  behinds-alike env ss =
      all-alike bare_message (messages_behind (by_one env)) (messages_behind (by_other env))
      (behind-alike env) ss

  -- ---- messages

  message-from-alike : (env : Environment) (name : Text) (body : List MessageStatementSyntax)
      (ms ns : List MessageDescriptor) → map bare_message ms ≡ map bare_message ns
      → bare_message (message_from (by_one env) name body ms)
      ≡ bare_message (message_from (by_other env) name body ns)
  message-from-alike env name body ms ns e =
      let nested = messages-listed ms ∙ ap messages_of_list e ∙ sym (messages-listed ns) in
      let fields = fields-from-alike (env_inside env name) 0 body in
      let oneofs = all-alike bare_oneof (oneofs_of (by_one (env_inside env name)))
      (oneofs_of (by_other (env_inside env name))) (oneofs-alike (env_inside env name)) body in
      let enums = all-alike bare_enum (bodies.enums_of (by_one (env_inside env name)))
      (bodies.enums_of (by_other (env_inside env name))) (enums-alike (env_inside env name)) body in
      let extensions = all-alike bare_field (bodies.extended_of (by_one (env_inside env name)))
      (bodies.extended_of (by_other (env_inside env name)))
      (extensions-alike (env_inside env name)) body in
      rw (fields, oneofs, enums, extensions, nested) refl

  mutual
    -- those of a statement
    nested-alike : (env : Environment) (s : MessageStatementSyntax)
        → map bare_message (nested_of (by_one env) s)
        ≡ map bare_message (nested_of (by_other env) s)
    nested-alike env (message_message at name body) =
        ap (λ m. m ∷ [])
        (message-from-alike env name (message_body body)
        (nested_in (by_one (env_inside env name)) body)
        (nested_in (by_other (env_inside env name)) body)
        (nested-in-alike (env_inside env name) body))
    nested-alike env (message_field f) = behind-alike env f
    nested-alike env (message_oneof o) = behinds-alike env (flat_map oneof_fields o.body)
    nested-alike env (message_extend e) = behinds-alike env (flat_map groups e.fields)
    nested-alike env _ = refl

    -- those of a body
    nested-in-alike : (env : Environment) (ss : MessageStatementList)
        → map bare_message (nested_in (by_one env) ss)
        ≡ map bare_message (nested_in (by_other env) ss)
    nested-in-alike env no_statements = refl
    nested-in-alike env (more_statements s ss) =
        both-alike bare_message (nested_of (by_one env) s) (nested_in (by_one env) ss)
        (nested_of (by_other env) s) (nested_in (by_other env) ss) (nested-alike env s)
        (nested-in-alike env ss)

  -- ---- files

  messages-alike : (env : Environment) (s : StatementSyntax)
      → map bare_message (file_messages_of (by_one env) s)
      ≡ map bare_message (file_messages_of (by_other env) s)
  messages-alike env (file_message m) = nested-alike env (nested_message m)
  messages-alike env (file_extend e) = behinds-alike env (flat_map groups e.fields)
  messages-alike env _ = refl

  file-enums-alike : (env : Environment) (s : StatementSyntax)
      → map bare_enum (files.file_enums_of (by_one env) s)
      ≡ map bare_enum (files.file_enums_of (by_other env) s)
  file-enums-alike env (file_enum e) = ap (λ d. d ∷ []) (enum-alike env e)
  file-enums-alike env _ = refl

  file-extensions-alike : (env : Environment) (s : StatementSyntax)
      → map bare_field (files.file_extensions_of (by_one env) s)
      ≡ map bare_field (files.file_extensions_of (by_other env) s)
  file-extensions-alike env (file_extend e) = fields-alike env (extending env e.extendee) e.fields
  file-extensions-alike env _ = refl

  services-alike : (env : Environment) (s : StatementSyntax)
      → map bare_service (services_of (by_one env) s)
      ≡ map bare_service (services_of (by_other env) s)
  services-alike env (file_service s) = ap (λ d. d ∷ []) (service-alike env s)
  services-alike env _ = refl

  pub file-alike : (env : Environment) (path : Text) (t : FileSyntax)
      → bare_file (file_of (by_one env) path t) ≡ bare_file (file_of (by_other env) path t)
  file-alike env path t =
      let messages = all-alike bare_message (file_messages_of (by_one env))
      (file_messages_of (by_other env))
      (messages-alike env) t.statements in
      let enums = all-alike bare_enum (files.file_enums_of (by_one env))
      (files.file_enums_of (by_other env))
      (file-enums-alike env) t.statements in
      let services = all-alike bare_service (services_of (by_one env)) (services_of (by_other env))
      (services-alike env) t.statements in
      let extensions = all-alike bare_field (files.file_extensions_of (by_one env))
      (files.file_extensions_of (by_other env)) (file-extensions-alike env) t.statements in
      rw (messages, enums, services, extensions) refl
