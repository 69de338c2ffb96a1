-- The names in a descriptor are those of what the statements declare.
use Rattle.std.proofs.Common.{◌≡◌, ℕ, ◌+◌, Bool, true, false, cond, List, [], ◌∷◌, ◌++◌, map}
use Rattle.std.proofs.Common.{flat_map, length, if◌then◌else◌, refl}
use Rattle.std.proofs.lemmas.List.{map-append}
use Rattle.protobuf_parse_lexer.specs.declared.lexer.token.Place.{Place}
use Rattle.protobuf_parse_syntax.specs.Trees.{FieldStatementSyntax, field, group, TypeSyntax}
use Rattle.protobuf_parse_syntax.specs.Trees.{scalar, map_of, named, MessageStatementSyntax}
use Rattle.protobuf_parse_syntax.specs.Trees.{message_oneof, message_extend, message_message}
use Rattle.protobuf_parse_syntax.specs.Trees.{message_enum, message_field, StatementSyntax}
use Rattle.protobuf_parse_syntax.specs.Trees.{file_message, file_enum, file_extend, file_service}
use Rattle.protobuf_parse_model.specs.Descriptors.{Text, OneofDescriptor}
use Rattle.protobuf_parse_model.specs.Duplicates.{NamedAt}
use Rattle.protobuf_parse_model.specs.Statements.{oneof_fields, groups}
use Rattle.protobuf_parse_model.specs.Environment.{Environment, Customs}
use Rattle.protobuf_parse_elaboration.specs.Fields.{FieldOwner, of_message, field_statement_of}
use Rattle.protobuf_parse_elaboration.specs.Fields.{field_named}
use Rattle.protobuf_parse_elaboration.specs.NamesOf.{names_of_fields}
use Rattle.protobuf_parse_elaboration.specs.Messages as messages
use Rattle.protobuf_parse_elaboration.specs.Messages.{entries_of, messages_behind, has_own_oneof}
use Rattle.protobuf_parse_elaboration.specs.Messages.{oneofs_of, at_oneof, fields_of, fields_from}
use Rattle.protobuf_parse_elaboration.specs.Messages.{extending}
use Rattle.protobuf_parse_elaboration.specs.NamesOf.{message_name, names_of_messages}
use Rattle.protobuf_parse_elaboration.specs.Messages.{nested_of}
use Rattle.protobuf_parse_elaboration.specs.NamesOf.{names_of_oneofs, names_of_enums}
use Rattle.protobuf_parse_elaboration.specs.Messages.{own_oneof, own_oneof_named, entries_named}
use Rattle.protobuf_parse_elaboration.specs.FileDescriptor as files
use Rattle.protobuf_parse_elaboration.specs.FileDescriptor.{file_messages_of, services_of}
use Rattle.protobuf_parse_elaboration.specs.NamesOf.{names_of_services}
use Rattle.protobuf_parse_elaboration.proofs.Told.{names_of}

-- the environment, with these custom options
abbrev pub with_customs : Customs → Environment → Environment
with_customs customs env = record env { customs = customs }

-- ---- lists

-- the names of two lists together
both-named : {A : Type 0} (name : A → Text) (xs ys : List A) (vs ws : List NamedAt)
    → map name xs ≡ names_of vs → map name ys ≡ names_of ws
    → map name (xs ++ ys) ≡ names_of (vs ++ ws)
both-named name xs ys vs ws h k =
    rw (map-append name xs ys, map-append (λ (d : NamedAt). d.name) vs ws, h, k) refl

-- the names of all that each element becomes
flat-named : {X A : Type 0} (name : A → Text) (f : X → List A) (g : X → List NamedAt)
    → ((x : X) → map name (f x) ≡ names_of (g x)) → (xs : List X)
    → map name (flat_map f xs) ≡ names_of (flat_map g xs)
flat-named name f g each [] = refl
flat-named name f g each (x ∷ xs) =
    both-named name (f x) (flat_map f xs) (g x) (flat_map g xs) (each x)
    (flat-named name f g each xs)

module _ (env : Environment) where
  -- ---- fields

  -- a field, wherever it stands
  field-name : (p : FieldOwner) (s : FieldStatementSyntax)
      → (field_statement_of env p s).name ≡ (field_named s).name
  field-name p (field f) = refl
  field-name p (group at label name number fields) = refl

  -- several
  pub fields-names : (p : FieldOwner) (ss : List FieldStatementSyntax)
      → names_of_fields (map (field_statement_of env p) ss) ≡ names_of (map field_named ss)
  fields-names p [] = refl
  fields-names p (s ∷ ss) = rw (field-name p s, fields-names p ss) refl

  -- those of a statement
  fields-of-names : (i : ℕ) (s : MessageStatementSyntax)
      → names_of_fields (fields_of env i s) ≡ names_of (messages.fields_named s)
  fields-of-names i (message_field f) =
      rw (field-name (if has_own_oneof env f then at_oneof i else of_message) f) refl
  fields-of-names i (message_oneof o) = fields-names (at_oneof i) (flat_map oneof_fields o.body)
  fields-of-names i _ = refl

  -- those of a body
  pub fields-from-names : (i : ℕ) (ss : List MessageStatementSyntax)
      → names_of_fields (fields_from env i ss) ≡ names_of (flat_map messages.fields_named ss)
  fields-from-names i [] = refl
  fields-from-names i (s ∷ ss) =
      let j = i + length (oneofs_of env s) in
      both-named (λ f. f.name) (fields_of env i s) (fields_from env j ss)
      (messages.fields_named s) (flat_map messages.fields_named ss) (fields-of-names i s)
      (fields-from-names j ss)

  -- ---- what else stands in a body

  -- the oneof that a field may be alone in
  own-name : (s : FieldStatementSyntax) (b : Bool)
      → names_of_oneofs (cond b (own_oneof s ∷ []) [])
      ≡ names_of (cond b (own_oneof_named s ∷ []) [])
  own-name s true = refl
  own-name s false = refl

  -- the oneofs of a statement
  oneof-names : (s : MessageStatementSyntax)
      → names_of_oneofs (oneofs_of env s) ≡ names_of (messages.oneofs_named env.syntax s)
  oneof-names (message_oneof o) = refl
  oneof-names (message_field f) = own-name f (has_own_oneof env f)
  oneof-names _ = refl

  pub oneofs-names : (ss : List MessageStatementSyntax)
      → names_of_oneofs (flat_map (oneofs_of env) ss)
      ≡ names_of (flat_map (messages.oneofs_named env.syntax) ss)
  oneofs-names ss =
      flat-named (λ (o : OneofDescriptor). o.name) (oneofs_of env)
      (messages.oneofs_named env.syntax) oneof-names ss

  -- its extensions
  extension-names : (s : MessageStatementSyntax)
      → names_of_fields (messages.extended_of env s) ≡ names_of (messages.extensions_named s)
  extension-names (message_extend e) = fields-names (extending env e.extendee) e.fields
  extension-names _ = refl

  pub extensions-names : (ss : List MessageStatementSyntax)
      → names_of_fields (flat_map (messages.extended_of env) ss)
      ≡ names_of (flat_map messages.extensions_named ss)
  extensions-names ss =
      flat-named (λ f. f.name) (messages.extended_of env) messages.extensions_named
      extension-names ss

  -- its enums
  enum-names : (s : MessageStatementSyntax)
      → names_of_enums (messages.enums_of env s) ≡ names_of (messages.enums_named s)
  enum-names (message_enum e) = refl
  enum-names _ = refl

  pub enums-names : (ss : List MessageStatementSyntax)
      → names_of_enums (flat_map (messages.enums_of env) ss)
      ≡ names_of (flat_map messages.enums_named ss)
  enums-names ss =
      flat-named (λ e. e.name) (messages.enums_of env) messages.enums_named enum-names ss

  -- ---- messages

  -- the message behind a map
  entries-names : (place : Place) (name : Text) (t : TypeSyntax)
      → names_of_messages (entries_of env name t) ≡ names_of (entries_named place name t)
  entries-names place name (map_of key value) = refl
  entries-names place name (scalar s) = refl
  entries-names place name (named n) = refl

  -- the message behind a field
  behind-names : (s : FieldStatementSyntax)
      → names_of_messages (messages_behind env s) ≡ names_of (messages.behind_named s)
  behind-names (field f) = entries-names f.place f.name f.type_
  behind-names (group at label name number fields) = refl

  -- the messages behind several
  behinds-names : (ss : List FieldStatementSyntax)
      → names_of_messages (flat_map (messages_behind env) ss)
      ≡ names_of (flat_map messages.behind_named ss)
  behinds-names ss =
      flat-named message_name (messages_behind env) messages.behind_named behind-names ss

  -- those of a statement; the messages inside one say nothing of its name
  nested-names : (s : MessageStatementSyntax)
      → names_of_messages (nested_of env s) ≡ names_of (messages.messages_named s)
  nested-names (message_message at name body) = refl
  nested-names (message_field f) = behind-names f
  nested-names (message_oneof o) = behinds-names (flat_map oneof_fields o.body)
  nested-names (message_extend e) = behinds-names (flat_map groups e.fields)
  nested-names _ = refl

  pub messages-names : (ss : List MessageStatementSyntax)
      → names_of_messages (flat_map (nested_of env) ss)
      ≡ names_of (flat_map messages.messages_named ss)
  messages-names ss =
      flat-named message_name (nested_of env) messages.messages_named nested-names ss

  -- ---- files

  -- the messages of a statement
  file-message-names : (s : StatementSyntax)
      → names_of_messages (file_messages_of env s) ≡ names_of (files.file_messages_named s)
  file-message-names (file_message m) = refl
  file-message-names (file_extend e) = behinds-names (flat_map groups e.fields)
  file-message-names _ = refl

  pub file-messages-names : (ss : List StatementSyntax)
      → names_of_messages (flat_map (file_messages_of env) ss)
      ≡ names_of (flat_map files.file_messages_named ss)
  file-messages-names ss =
      flat-named message_name (file_messages_of env) files.file_messages_named
      file-message-names ss

  -- its enums
  file-enum-names : (s : StatementSyntax)
      → names_of_enums (files.file_enums_of env s) ≡ names_of (files.file_enums_named s)
  file-enum-names (file_enum e) = refl
  file-enum-names _ = refl

  pub file-enums-names : (ss : List StatementSyntax)
      → names_of_enums (flat_map (files.file_enums_of env) ss)
      ≡ names_of (flat_map files.file_enums_named ss)
  file-enums-names ss =
      flat-named (λ e. e.name) (files.file_enums_of env) files.file_enums_named file-enum-names ss

  -- its extensions
  file-extension-names : (s : StatementSyntax)
      → names_of_fields (files.file_extensions_of env s) ≡ names_of (files.file_extensions_named s)
  file-extension-names (file_extend e) = fields-names (extending env e.extendee) e.fields
  file-extension-names _ = refl

  pub file-extensions-names : (ss : List StatementSyntax)
      → names_of_fields (flat_map (files.file_extensions_of env) ss)
      ≡ names_of (flat_map files.file_extensions_named ss)
  file-extensions-names ss =
      flat-named (λ f. f.name) (files.file_extensions_of env) files.file_extensions_named
      file-extension-names ss

  -- its services
  service-names : (s : StatementSyntax)
      → names_of_services (services_of env s) ≡ names_of (files.services_named s)
  service-names (file_service s) = refl
  service-names _ = refl

  pub services-names : (ss : List StatementSyntax)
      → names_of_services (flat_map (services_of env) ss)
      ≡ names_of (flat_map files.services_named ss)
  services-names ss =
      flat-named (λ s. s.name) (services_of env) files.services_named service-names ss
