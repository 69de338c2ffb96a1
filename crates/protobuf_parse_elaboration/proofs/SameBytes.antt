-- What a construct becomes has no bytes of custom options but those of its sets.
use Rattle.std.proofs.Common.{◌≡◌, ℕ, ◌+◌, List, [], ◌∷◌, ◌++◌, map, flat_map, length, None}
use Rattle.std.proofs.Common.{if◌then◌else◌, refl, ap, subst}
use Rattle.protobuf_parse_syntax.specs.Trees.{FieldSyntax, FieldStatementSyntax, field, group}
use Rattle.protobuf_parse_syntax.specs.Trees.{TypeSyntax, scalar, map_of, named, EnumValueSyntax}
use Rattle.protobuf_parse_syntax.specs.Trees.{EnumSyntax, MessageStatementSyntax, message_oneof}
use Rattle.protobuf_parse_syntax.specs.Trees.{message_extend, message_message, message_enum}
use Rattle.protobuf_parse_syntax.specs.Trees.{message_field, MessageStatementList, no_statements}
use Rattle.protobuf_parse_syntax.specs.Trees.{more_statements, nested_message, MethodSyntax}
use Rattle.protobuf_parse_syntax.specs.Trees.{ServiceSyntax, StatementSyntax, file_message}
use Rattle.protobuf_parse_syntax.specs.Trees.{file_enum, file_extend, file_service, FileSyntax}
use Rattle.protobuf_parse_model.specs.declared.customs.Construct.TheVariants as of
use Rattle.protobuf_parse_model.specs.Descriptors.{Text, MessageDescriptor}
use Rattle.protobuf_parse_model.specs.Faults.{Among, here, there}
use Rattle.protobuf_parse_model.specs.Statements.{group_body, message_body, oneof_fields, groups}
use Rattle.protobuf_parse_model.specs.Declarations.{Scope, inside, full_name}
use Rattle.protobuf_parse_model.specs.Environment.{Environment, Customs, env_inside}
use Rattle.protobuf_parse_model.proofs.Blaming.{among_left, among_right}
use Rattle.protobuf_parse_elaboration.specs.Fields.{FieldOwner, of_message, field_of}
use Rattle.protobuf_parse_elaboration.specs.Fields.{field_statement_of}
use Rattle.protobuf_parse_elaboration.specs.Enums.{enum_values, options_of_enum, value_of, enum_of}
use Rattle.protobuf_parse_elaboration.specs.Services.{methods_in, options_of_service, method_of}
use Rattle.protobuf_parse_elaboration.specs.Services.{service_of}
use Rattle.protobuf_parse_elaboration.specs.Messages as messages
use Rattle.protobuf_parse_elaboration.specs.Messages.{entries_of, messages_behind, has_own_oneof}
use Rattle.protobuf_parse_elaboration.specs.Messages.{options_in_oneof, oneofs_of, at_oneof}
use Rattle.protobuf_parse_elaboration.specs.Messages.{fields_of, fields_from, extending}
use Rattle.protobuf_parse_elaboration.specs.Messages.{options_of_body, message_from, nested_of}
use Rattle.protobuf_parse_elaboration.specs.Messages.{nested_in}
use Rattle.protobuf_parse_elaboration.specs.FileDescriptor as files
use Rattle.protobuf_parse_elaboration.specs.FileDescriptor.{options_of_statements, environment}
use Rattle.protobuf_parse_elaboration.specs.FileDescriptor.{file_messages_of, services_of, file_of}
use Rattle.protobuf_parse_elaboration.specs.OptionSets.{OptionSet, a_set, sets_in_group, field_sets}
use Rattle.protobuf_parse_elaboration.specs.OptionSets.{value_set, enum_sets, sets_of, sets_in}
use Rattle.protobuf_parse_elaboration.specs.OptionSets.{method_set, service_sets, statement_sets}
use Rattle.protobuf_parse_elaboration.specs.OptionSets.{option_sets}
use Rattle.protobuf_parse_elaboration.specs.CustomSets.{bytes_of_set, BytesAreOfSets}
use Rattle.protobuf_parse_elaboration.proofs.SameNames.{with_customs}

-- two lists with equal parts
both_same : {A : Type 0} {xs ys vs ws : List A} → xs ≡ vs → ys ≡ ws → xs ++ ys ≡ vs ++ ws
both_same h k = rw (h, k) refl

-- two lists with equal first elements and equal rests
more_same : {A : Type 0} {x y : A} {xs ys : List A} → x ≡ y → xs ≡ ys → x ∷ xs ≡ y ∷ ys
more_same h k = rw (h, k) refl

module _ (one other : Customs) where
  -- the environment with the custom options of the one, and of the other
  abbrev by_one : Environment → Environment
  by_one env = with_customs one env

  abbrev by_other : Environment → Environment
  by_other env = with_customs other env

  -- the custom options of these sets become the same bytes
  abbrev Same : List OptionSet → Type 0
  Same sets = (s : OptionSet) → Among sets s → bytes_of_set one s ≡ bytes_of_set other s

  -- ---- lists of sets

  first : {s : OptionSet} {sets : List OptionSet} → Same (s ∷ sets)
      → bytes_of_set one s ≡ bytes_of_set other s
  first {s} h = h s here

  rest : {s : OptionSet} {sets : List OptionSet} → Same (s ∷ sets) → Same sets
  rest h s k = h s (there k)

  left : (xs ys : List OptionSet) → Same (xs ++ ys) → Same xs
  left xs ys h s k = h s (among_left ys k)

  right : (xs ys : List OptionSet) → Same (xs ++ ys) → Same ys
  right xs ys h s k = h s (among_right xs k)

  -- what each element becomes, by its sets
  flat-same : {X A : Type 0} (sets : X → List OptionSet) (f g : X → List A)
      → ((x : X) → Same (sets x) → f x ≡ g x) → (xs : List X) → Same (flat_map sets xs)
      → flat_map f xs ≡ flat_map g xs
  flat-same sets f g each [] h = refl
  flat-same sets f g each (x ∷ xs) h =
      both_same (each x (left (sets x) (flat_map sets xs) h))
      (flat-same sets f g each xs (right (sets x) (flat_map sets xs) h))

  -- where each becomes one
  map-same : {X A : Type 0} (sets : X → List OptionSet) (f g : X → A)
      → ((x : X) → Same (sets x) → f x ≡ g x) → (xs : List X) → Same (flat_map sets xs)
      → map f xs ≡ map g xs
  map-same sets f g each [] h = refl
  map-same sets f g each (x ∷ xs) h =
      more_same (each x (left (sets x) (flat_map sets xs) h))
      (map-same sets f g each xs (right (sets x) (flat_map sets xs) h))

  -- and each has one set
  each-same : {X A : Type 0} (set : X → OptionSet) (f g : X → A)
      → ((x : X) → bytes_of_set one (set x) ≡ bytes_of_set other (set x) → f x ≡ g x)
      → (xs : List X) → Same (map set xs) → map f xs ≡ map g xs
  each-same set f g each [] h = refl
  each-same set f g each (x ∷ xs) h =
      more_same (each x (h (set x) here)) (each-same set f g each xs (λ s k. h s (there k)))

  -- ---- fields

  -- a field
  field-same : (env : Environment) (p : FieldOwner) (f : FieldSyntax)
      → one.bytes of.Field env.scope f.options ≡ other.bytes of.Field env.scope f.options
      → field_of (by_one env) p f ≡ field_of (by_other env) p f
  field-same env p f h = rw h refl

  -- a field or a group
  statement-same : (env : Environment) (p : FieldOwner) (s : FieldStatementSyntax)
      → Same (field_sets env.scope s)
      → field_statement_of (by_one env) p s ≡ field_statement_of (by_other env) p s
  statement-same env p (field f) h =
      field-same env p f
      (h (a_set of.Field (full_name env.scope f.name) env.scope f.options) here)
  statement-same env p (group at label name number fields) h = refl

  -- one of a group
  grouped-same : (env : Environment) (within : Scope) (s : FieldStatementSyntax)
      → Same (sets_in_group env.scope within s)
      → field_statement_of (by_one env) of_message s
      ≡ field_statement_of (by_other env) of_message s
  grouped-same env within (field f) h =
      field-same env of_message f
      (h (a_set of.Field (full_name within f.name) env.scope f.options) here)
  grouped-same env within (group at label name number fields) h = refl

  -- several in one place
  fields-same : (env : Environment) (p : FieldOwner) (ss : List FieldStatementSyntax)
      → Same (flat_map (field_sets env.scope) ss)
      → map (field_statement_of (by_one env) p) ss ≡ map (field_statement_of (by_other env) p) ss
  fields-same env p ss h =
      map-same (field_sets env.scope) (field_statement_of (by_one env) p)
      (field_statement_of (by_other env) p) (statement-same env p) ss h

  -- the message behind a map, which has no custom options
  entries-same : (env : Environment) (name : Text) (t : TypeSyntax)
      → entries_of (by_one env) name t ≡ entries_of (by_other env) name t
  entries-same env name (map_of key value) = refl
  entries-same env name (scalar s) = refl
  entries-same env name (named n) = refl

  -- the message behind a field
  behind-same : (env : Environment) (s : FieldStatementSyntax) → Same (field_sets env.scope s)
      → messages_behind (by_one env) s ≡ messages_behind (by_other env) s
  behind-same env (field f) h = entries-same env f.name f.type_
  behind-same env (group at label name number fields) h =
      ap (λ fs. messages.message_with name fs None ∷ [])
      (map-same (sets_in_group env.scope (inside env.scope name))
      (field_statement_of (by_one env) of_message) (field_statement_of (by_other env) of_message)
      (grouped-same env (inside env.scope name)) (group_body fields) h)

  -- the messages behind several
  behinds-same : (env : Environment) (ss : List FieldStatementSyntax)
      → Same (flat_map (field_sets env.scope) ss)
      → flat_map (messages_behind (by_one env)) ss ≡ flat_map (messages_behind (by_other env)) ss
  behinds-same env ss h =
      flat-same (field_sets env.scope) (messages_behind (by_one env))
      (messages_behind (by_other env)) (behind-same env) ss h

  -- the messages behind the groups among them
  grouped-behind-same : (env : Environment) (ss : List FieldStatementSyntax)
      → Same (flat_map (field_sets env.scope) ss)
      → flat_map (messages_behind (by_one env)) (flat_map groups ss)
      ≡ flat_map (messages_behind (by_other env)) (flat_map groups ss)
  grouped-behind-same env [] h = refl
  grouped-behind-same env (field f ∷ ss) h =
      grouped-behind-same env ss
      (right (field_sets env.scope (field f)) (flat_map (field_sets env.scope) ss) h)
  grouped-behind-same env (group at label name number fields ∷ ss) h =
      let s = group at label name number fields in
      both_same
      (behind-same env s
      (left (field_sets env.scope s) (flat_map (field_sets env.scope) ss) h))
      (grouped-behind-same env ss
      (right (field_sets env.scope s) (flat_map (field_sets env.scope) ss) h))

  -- ---- enums and services

  -- an enum
  enum-same : (env : Environment) (e : EnumSyntax) → Same (enum_sets env.scope e)
      → enum_of (by_one env) e ≡ enum_of (by_other env) e
  enum-same env e h =
      let values = each-same (value_set env.scope (inside env.scope e.name)) (value_of (by_one env))
      (value_of (by_other env))
      (λ (v : EnumValueSyntax) k. rw k refl) (flat_map enum_values e.body)
      (λ s k. h s (there k)) in
      rw (
        values,
        h (a_set of.Enum (full_name env.scope e.name) env.scope
            (options_of_enum e)) here,
      ) refl

  -- a service
  service-same : (env : Environment) (s : ServiceSyntax) → Same (service_sets env.scope s)
      → service_of (by_one env) s ≡ service_of (by_other env) s
  service-same env s h =
      let methods = each-same (method_set env.scope (inside env.scope s.name))
      (method_of (by_one env))
      (method_of (by_other env)) (λ (m : MethodSyntax) k. rw k refl)
      (flat_map methods_in s.body) (λ x k. h x (there k)) in
      rw (
        methods,
        h (a_set of.Service (full_name env.scope s.name) env.scope
            (options_of_service s)) here,
      ) refl

  -- ---- the statements of a body

  -- the fields of a statement
  fields-of-same : (env : Environment) (index : ℕ) (s : MessageStatementSyntax)
      → Same (sets_of env.scope s)
      → fields_of (by_one env) index s ≡ fields_of (by_other env) index s
  fields-of-same env index (message_field f) h =
      ap (λ d. d ∷ [])
      (statement-same env (if has_own_oneof env f then at_oneof index else of_message) f h)
  fields-of-same env index (message_oneof o) h =
      fields-same env (at_oneof index) (flat_map oneof_fields o.body) (λ s k. h s (there k))
  fields-of-same env index _ h = refl

  -- its oneofs
  oneofs-same : (env : Environment) (s : MessageStatementSyntax) → Same (sets_of env.scope s)
      → oneofs_of (by_one env) s ≡ oneofs_of (by_other env) s
  oneofs-same env (message_oneof o) h =
      rw (h (a_set of.Oneof (full_name env.scope o.name) env.scope (options_in_oneof o)) here) refl
  oneofs-same env (message_field f) h = refl
  oneofs-same env _ h = refl

  -- its enums
  enums-same : (env : Environment) (s : MessageStatementSyntax) → Same (sets_of env.scope s)
      → messages.enums_of (by_one env) s ≡ messages.enums_of (by_other env) s
  enums-same env (message_enum e) h = ap (λ d. d ∷ []) (enum-same env e h)
  enums-same env _ h = refl

  -- its extensions
  extensions-same : (env : Environment) (s : MessageStatementSyntax) → Same (sets_of env.scope s)
      → messages.extended_of (by_one env) s ≡ messages.extended_of (by_other env) s
  extensions-same env (message_extend e) h = fields-same env (extending env e.extendee) e.fields h
  extensions-same env _ h = refl

  -- the fields of a body
  fields-from-same : (env : Environment) (index : ℕ) (ss : List MessageStatementSyntax)
      → Same (flat_map (sets_of env.scope) ss)
      → fields_from (by_one env) index ss ≡ fields_from (by_other env) index ss
  fields-from-same env index [] h = refl
  fields-from-same env index (s ∷ ss) h =
      let here_same = left (sets_of env.scope s) (flat_map (sets_of env.scope) ss) h in
      let after = right (sets_of env.scope s) (flat_map (sets_of env.scope) ss) h in
      both_same (fields-of-same env index s here_same)
      (rw (oneofs-same env s here_same)
      (fields-from-same env (index + length (oneofs_of (by_other env) s)) ss after))

  -- ---- messages

  -- a message, by its own set, by those of its body, and by the messages inside it
  message-from-same : (env : Environment) (name : Text) (body : List MessageStatementSyntax)
      (ms ns : List MessageDescriptor)
      → one.bytes of.Message env.scope (options_of_body body)
      ≡ other.bytes of.Message env.scope (options_of_body body)
      → Same (flat_map (sets_of (env_inside env name).scope) body) → ms ≡ ns
      → message_from (by_one env) name body ms ≡ message_from (by_other env) name body ns
  message-from-same env name body ms ns own h same =
      let sets = sets_of (env_inside env name).scope in
      let fields = fields-from-same (env_inside env name) 0 body h in
      let oneofs = flat-same sets (oneofs_of (by_one (env_inside env name)))
      (oneofs_of (by_other (env_inside env name))) (oneofs-same (env_inside env name)) body h in
      let enums = flat-same sets (messages.enums_of (by_one (env_inside env name)))
      (messages.enums_of (by_other (env_inside env name))) (enums-same (env_inside env name)) body
      h in
      let extensions = flat-same sets (messages.extended_of (by_one (env_inside env name)))
      (messages.extended_of (by_other (env_inside env name)))
      (extensions-same (env_inside env name)) body h in
      rw (fields, oneofs, enums, extensions, own, same) refl

  -- the sets of a body, by its list
  sets-in : (scope : Scope) (ss : MessageStatementList)
      → sets_in scope ss ≡ flat_map (sets_of scope) (message_body ss)
  sets-in scope no_statements = refl
  sets-in scope (more_statements s ss) = rw (sets-in scope ss) refl

  mutual
    -- the messages of a statement
    nested-same : (env : Environment) (s : MessageStatementSyntax) → Same (sets_of env.scope s)
        → nested_of (by_one env) s ≡ nested_of (by_other env) s
    nested-same env (message_message at name body) h =
        ap (λ m. m ∷ [])
        (message-from-same env name (message_body body)
        (nested_in (by_one (env_inside env name)) body)
        (nested_in (by_other (env_inside env name)) body)
        (h (a_set of.Message (full_name env.scope name) env.scope
        (options_of_body (message_body body))) here)
        (subst Same (sets-in (env_inside env name).scope body) (λ s k. h s (there k)))
        (nested-in-same (env_inside env name) body (λ s k. h s (there k))))
    nested-same env (message_field f) h = behind-same env f h
    nested-same env (message_oneof o) h =
        behinds-same env (flat_map oneof_fields o.body) (λ s k. h s (there k))
    nested-same env (message_extend e) h = grouped-behind-same env e.fields h
    nested-same env _ h = refl

    -- those of a body
    nested-in-same : (env : Environment) (ss : MessageStatementList) → Same (sets_in env.scope ss)
        → nested_in (by_one env) ss ≡ nested_in (by_other env) ss
    nested-in-same env no_statements h = refl
    nested-in-same env (more_statements s ss) h =
        both_same (nested-same env s (left (sets_of env.scope s) (sets_in env.scope ss) h))
        (nested-in-same env ss (right (sets_of env.scope s) (sets_in env.scope ss) h))

  -- ---- files

  -- the messages of a statement
  messages-same : (env : Environment) (s : StatementSyntax) → Same (statement_sets env.scope s)
      → file_messages_of (by_one env) s ≡ file_messages_of (by_other env) s
  messages-same env (file_message m) h = nested-same env (nested_message m) h
  messages-same env (file_extend e) h = grouped-behind-same env e.fields h
  messages-same env _ h = refl

  -- its enums
  file-enums-same : (env : Environment) (s : StatementSyntax) → Same (statement_sets env.scope s)
      → files.file_enums_of (by_one env) s ≡ files.file_enums_of (by_other env) s
  file-enums-same env (file_enum e) h = ap (λ d. d ∷ []) (enum-same env e h)
  file-enums-same env _ h = refl

  -- its extensions
  file-extensions-same : (env : Environment) (s : StatementSyntax)
      → Same (statement_sets env.scope s)
      → files.file_extensions_of (by_one env) s ≡ files.file_extensions_of (by_other env) s
  file-extensions-same env (file_extend e) h = fields-same env (extending env e.extendee) e.fields h
  file-extensions-same env _ h = refl

  -- its services
  services-same : (env : Environment) (s : StatementSyntax) → Same (statement_sets env.scope s)
      → services_of (by_one env) s ≡ services_of (by_other env) s
  services-same env (file_service s) h = ap (λ d. d ∷ []) (service-same env s h)
  services-same env _ h = refl

  -- a file
  file-same : (seen : List FileSyntax) (path : Text) (t : FileSyntax) → Same (option_sets t)
      → file_of (environment seen one t) path t ≡ file_of (environment seen other t) path t
  file-same seen path t h =
      let env = environment seen one t in
      let after : Same (flat_map (statement_sets env.scope) t.statements) = λ s k. h s (there k) in
      let messages = flat-same (statement_sets env.scope) (file_messages_of (by_one env))
      (file_messages_of (by_other env)) (messages-same env) t.statements after in
      let enums = flat-same (statement_sets env.scope) (files.file_enums_of (by_one env))
      (files.file_enums_of (by_other env)) (file-enums-same env) t.statements after in
      let extensions = flat-same (statement_sets env.scope) (files.file_extensions_of (by_one env))
      (files.file_extensions_of (by_other env)) (file-extensions-same env) t.statements after in
      let services = flat-same (statement_sets env.scope) (services_of (by_one env))
      (services_of (by_other env)) (services-same env) t.statements after in
      rw (
        messages,
        enums,
        extensions,
        services,
        h (a_set of.File [] env.scope (options_of_statements t.statements)) here,
      ) refl

-- where the bytes of each set are the same, so is the file
pub bytes_are_of_sets : BytesAreOfSets
bytes_are_of_sets seen one other path t h = file-same one other seen path t h
