-- Where no fault stands in a file, the names of types in its descriptor are those of declared
-- types.
use Rattle.std.proofs.Common.{◌≡◌, ℕ, ◌+◌, ℤ, pos, Bool, true, false, List, [], ◌∷◌, ◌++◌, map}
use Rattle.std.proofs.Common.{flat_map, length, Option, Some, None, is_some, IsSome, option_map}
use Rattle.std.proofs.Common.{option_to_list, unwrap_or, if◌then◌else◌, codes, refl, ap, subst, ◌∙◌}
use Rattle.std.proofs.Common.{sym, bytes_eq}
use Rattle.std.proofs.lemmas.Slice.Eq.{bytes_eq-Decides}
use Rattle.std.specs.List.{AllByRecursion}
use Rattle.protobuf_parse_syntax.specs.Trees.{TypeSyntax, scalar, map_of, named, FieldSyntax}
use Rattle.protobuf_parse_syntax.specs.Trees.{FieldStatementSyntax, field, group, OneofSyntax}
use Rattle.protobuf_parse_syntax.specs.Trees.{ExtendSyntax, MessageStatementSyntax, message_oneof}
use Rattle.protobuf_parse_syntax.specs.Trees.{message_extend, message_message, message_field}
use Rattle.protobuf_parse_syntax.specs.Trees.{MessageStatementList, no_statements, more_statements}
use Rattle.protobuf_parse_syntax.specs.Trees.{nested_message, MethodSyntax, ServiceSyntax}
use Rattle.protobuf_parse_syntax.specs.Trees.{StatementSyntax, file_message, file_extend}
use Rattle.protobuf_parse_syntax.specs.Trees.{file_service, FileSyntax}
use Rattle.protobuf_parse_model.specs.declared.error.ElabErrorKind.TheVariants.{DanglingTypeName}
use Rattle.protobuf_parse_model.specs.declared.descriptor.FieldType.TheVariants as kind
use Rattle.protobuf_parse_model.specs.Options.{MessageOptionValues}
use Rattle.protobuf_parse_model.specs.Descriptors.{Text, FieldDescriptor, MessageParts}
use Rattle.protobuf_parse_model.specs.Descriptors.{MessageDescriptor, messages_of_list}
use Rattle.protobuf_parse_model.specs.Descriptors.{MethodDescriptor, ServiceDescriptor}
use Rattle.protobuf_parse_model.specs.Descriptors.{FileDescriptor}
use Rattle.protobuf_parse_model.specs.Faults.{Among, placed}
use Rattle.protobuf_parse_model.specs.Duplicates.{fault_when, duplicates}
use Rattle.protobuf_parse_model.specs.Statements.{group_body, message_body, entry_name, is_map}
use Rattle.protobuf_parse_model.specs.Statements.{oneof_fields, groups}
use Rattle.protobuf_parse_model.specs.Declarations.{Scope, full_name, DeclaredType}
use Rattle.protobuf_parse_model.specs.Declarations.{a_message, generated_by, generated_of}
use Rattle.protobuf_parse_model.specs.Declarations.{generated_in, statement_generated}
use Rattle.protobuf_parse_model.specs.Declarations.{file_generated}
use Rattle.protobuf_parse_model.specs.Lookup.{meant}
use Rattle.protobuf_parse_model.specs.Environment.{Environment, Customs, env_inside, type_named}
use Rattle.protobuf_parse_model.specs.Environment.{missing, type_missing}
use Rattle.protobuf_parse_model.specs.BuiltinOptions.{oneof_table, service_table, method_table}
use Rattle.protobuf_parse_model.specs.BuiltinOptions.{file_table}
use Rattle.protobuf_parse_model.specs.declared.customs.Construct.TheVariants as of
use Rattle.protobuf_parse_model.specs.OptionMessages.{entry_options}
use Rattle.protobuf_parse_model.proofs.Blaming.{among_left, among_right}
use Rattle.protobuf_parse_elaboration.specs.ConstructOptions.{construct_faults}
use Rattle.protobuf_parse_elaboration.specs.Fields as specs
use Rattle.protobuf_parse_elaboration.specs.Fields.{FieldTypeOf, type_of_meaning, type_of}
use Rattle.protobuf_parse_elaboration.specs.Fields.{inner_type_faults, type_faults}
use Rattle.protobuf_parse_elaboration.specs.Fields.{if_not_told, is_told_alike}
use Rattle.protobuf_parse_elaboration.specs.Fields.{FieldOwner, of_message}
use Rattle.protobuf_parse_elaboration.specs.Fields.{field_of, field_statement_of, field_faults}
use Rattle.protobuf_parse_elaboration.specs.Fields.{fields_of_group, map_faults, grouped_faults}
use Rattle.protobuf_parse_elaboration.specs.Fields.{field_statement_faults, extension_faults}
use Rattle.protobuf_parse_elaboration.specs.Messages as messages
use Rattle.protobuf_parse_elaboration.specs.Messages.{message_with, entry_field, entries_of}
use Rattle.protobuf_parse_elaboration.specs.Messages.{messages_behind, has_own_oneof}
use Rattle.protobuf_parse_elaboration.specs.Messages.{options_in_oneof, oneofs_of, at_oneof}
use Rattle.protobuf_parse_elaboration.specs.Messages.{fields_of, fields_from, extending}
use Rattle.protobuf_parse_elaboration.specs.Messages.{extend_fields, extendee_faults, extend_faults}
use Rattle.protobuf_parse_elaboration.specs.Messages.{message_from, nested_of, nested_in}
use Rattle.protobuf_parse_elaboration.specs.Messages.{whole_faults, oneof_faults, faults_in}
use Rattle.protobuf_parse_elaboration.specs.Services.{methods_in, options_of_method}
use Rattle.protobuf_parse_elaboration.specs.Services.{options_of_service, method_of, service_of}
use Rattle.protobuf_parse_elaboration.specs.Services.{method_faults, method_named, methods_faults}
use Rattle.protobuf_parse_elaboration.specs.Services.{service_faults}
use Rattle.protobuf_parse_elaboration.specs.FileDescriptor as files
use Rattle.protobuf_parse_elaboration.specs.FileDescriptor.{options_of_statements, types_of_files}
use Rattle.protobuf_parse_elaboration.specs.FileDescriptor.{environment, file_messages_of}
use Rattle.protobuf_parse_elaboration.specs.FileDescriptor.{services_of, file_of, file_duplicates}
use Rattle.protobuf_parse_elaboration.specs.FileDescriptor.{file_faults}
use Rattle.protobuf_parse_elaboration.specs.NamedTypes.{down_from, down_from_all, fields_in}
use Rattle.protobuf_parse_elaboration.specs.NamedTypes.{extended_in, names_of_field}
use Rattle.protobuf_parse_elaboration.specs.NamedTypes.{names_of_method, names_of_service}
use Rattle.protobuf_parse_elaboration.specs.NamedTypes.{type_names_in, has_name, names_declared}
use Rattle.protobuf_parse_elaboration.specs.NamedTypes.{messages_declared, NamesAreDeclared}
use Rattle.protobuf_parse_elaboration.specs.NamedTypes.{TypesAreNamed, ExtendeesAreNamed}
use Rattle.protobuf_parse_elaboration.specs.NamedTypes.{MessagesAreNamed}
use Rattle.protobuf_parse_elaboration.proofs.DeclaredMessages.{front, message-told, message-from}
use Rattle.protobuf_parse_elaboration.proofs.Lookups.{meaning_declared}
use Rattle.protobuf_parse_elaboration.proofs.Gathering.{none_placed}
use Rattle.protobuf_parse_elaboration.proofs.Orders.{among-map}
use Rattle.protobuf_parse_elaboration.proofs.NamedKinds.{scalar-plain, kind-named, own_faults}
use Rattle.protobuf_parse_elaboration.proofs.NamedKinds.{own-none, extension-none, extendee-is}
use Rattle.protobuf_parse_elaboration.proofs.NamedKinds.{full-stands, message-kind}
use Rattle.protobuf_parse_elaboration.proofs.EachOne.{no-left, no-right, all-left, all-right}
use Rattle.protobuf_parse_elaboration.proofs.EachOne.{all-both, all-flat, all-map, all-among}
use Rattle.protobuf_parse_elaboration.proofs.EachOne.{all-from, none-each, IsClean, clean-each}
use Rattle.protobuf_parse_elaboration.proofs.ExtendGroups.{generates-none, groups-tell}
use Rattle.protobuf_parse_elaboration.proofs.ExtendGroups.{stands-alone}

-- `P` holds of the names of types, `M` of those of messages
module _ (P M : Text → Type 0) (any : (name : Text) → M name → P name) (customs : Customs) where
  -- the environment of a descriptor, with these custom options; that of its faults may be with
  -- others
  abbrev with_customs : Environment → Environment
  with_customs env = record env { customs = customs }

  -- the type of a field says its name where it has one, and that has the property
  record TypeIsNamed (t : FieldTypeOf) : Type 0 where
    stands : is_some t.name ≡ has_name t.kind
    each : AllByRecursion P (option_to_list t.name)
    message : (name : Text) → t.kind ≡ kind.Message → t.name ≡ Some name → M name

  -- the same of a field, with what it extends
  record FieldIsNamed (f : FieldDescriptor) : Type 0 where
    stands : is_some f.type_name ≡ has_name f.type_
    each : AllByRecursion P (names_of_field f)
    message : (name : Text) → f.type_ ≡ kind.Message → f.type_name ≡ Some name → M name

  -- and of an extension, which says what it extends
  record ExtensionIsNamed (f : FieldDescriptor) : Type 0 where
    is_field : FieldIsNamed f
    extends : IsSome f.extendee

  -- the same of all fields and extensions of a message
  record MessageIsNamed (m : MessageDescriptor) : Type 0 where
    fields : AllByRecursion FieldIsNamed (down_from (λ (p : MessageParts). p.field) m)
    extensions : AllByRecursion ExtensionIsNamed (down_from (λ (p : MessageParts). p.extension) m)

  -- what a method takes and returns has the property
  abbrev MethodIsNamed : MethodDescriptor → Type 0
  MethodIsNamed m = AllByRecursion P (names_of_method m)

  -- the same of all methods of a service
  abbrev ServiceIsNamed : ServiceDescriptor → Type 0
  ServiceIsNamed s = AllByRecursion P (names_of_service s)

  -- all of this of a file
  record FileIsNamed (f : FileDescriptor) : Type 0 where
    fields : AllByRecursion FieldIsNamed (fields_in f)
    extensions : AllByRecursion ExtensionIsNamed (extended_in f)
    services : AllByRecursion P (flat_map names_of_service f.service)

  -- the full name of a type has the property, and that of a message the other too
  abbrev TypeStands : DeclaredType → Type 0
  TypeStands d = P d.name × (d.what ≡ a_message → M d.name)

  -- so has that of what names mean there
  abbrev Known : Environment → Type 0
  Known env = (scope : Scope) (name : Text) (d : DeclaredType) → meant env.types scope name ≡ Some d
      → TypeStands d

  -- ---- types

  -- by what the name of a type means
  meaning-named : (n : Text) (o : Option DeclaredType)
      → ((d : DeclaredType) → o ≡ Some d → TypeStands d) → missing n o ≡ []
      → TypeIsNamed (type_of_meaning o)
  meaning-named n None k h = absurd cc
  meaning-named n (Some d) k h = record {
    stands = kind-named d.what;
    each = ((k d refl).0, tt);
    message = λ name is e. let p : d.name ≡ name = cc in
        subst M p ((k d refl).1 (message-kind d.what is));
  }

  -- the key or the value of a map
  inner-named : (env : Environment) → Known env → (name : Text) (t : TypeSyntax)
      → inner_type_faults env name t ≡ [] → TypeIsNamed (type_of (with_customs env) name t)
  inner-named env known name (scalar s) h =
      record { stands = scalar-plain s; each = tt; message = λ n is e. absurd cc }
  inner-named env known name (named n) h = meaning-named n (type_named env n) (known env.scope n) h
  inner-named env known name (map_of key value) h = absurd cc

  -- the type of a field, which may be a map
  type-is-named : (env : Environment) → Known env → (name : Text) (t : TypeSyntax)
      → AllByRecursion M (if is_map t then full_name env.scope (entry_name name) ∷ [] else [])
      → type_faults env name t ≡ [] → TypeIsNamed (type_of (with_customs env) name t)
  type-is-named env known name (scalar s) g h = inner-named env known name (scalar s) h
  type-is-named env known name (named n) g h = inner-named env known name (named n) h
  type-is-named env known name (map_of key value) g h = record {
    stands = refl;
    each = (any (full_name env.scope (entry_name name)) g.0, tt);
    message = λ n is e. let p : full_name env.scope (entry_name name) ≡ n = cc in subst M p g.0;
  }

  -- the full name that a name may have
  full-each : (o : Option DeclaredType) → ((d : DeclaredType) → o ≡ Some d → TypeStands d)
      → AllByRecursion P (option_to_list (option_map (λ (d : DeclaredType). d.name) o))
  full-each None k = tt
  full-each (Some d) k = ((k d refl).0, tt)

  -- the full name that a name without faults has
  full-named : (n : Text) (o : Option DeclaredType)
      → ((d : DeclaredType) → o ≡ Some d → TypeStands d) → missing n o ≡ []
      → P (unwrap_or (option_map (λ (d : DeclaredType). d.name) o) [])
  full-named n None k h = absurd cc
  full-named n (Some d) k h = (k d refl).0

  -- ---- fields

  -- a field without faults in its type
  field-named : (env : Environment) → Known env → (owner : FieldOwner) (f : FieldSyntax)
      → AllByRecursion P (option_to_list owner.extendee)
      → AllByRecursion M (generated_by env.scope (field f)) → type_faults env f.name f.type_ ≡ []
      → FieldIsNamed (field_of (with_customs env) owner f)
  field-named env known owner f e g h =
      let t : TypeIsNamed (type_of (with_customs env) f.name f.type_) =
      type-is-named env known f.name f.type_ g h in
      record {
        stands = t.stands;
        each =
            all-both P (option_to_list (type_of (with_customs env) f.name f.type_).name)
            (option_to_list owner.extendee) t.each e;
        message = t.message;
      }

  -- a field or a group
  statement-named : (env : Environment) → Known env
      → (owner : FieldOwner) (s : FieldStatementSyntax)
      → AllByRecursion P (option_to_list owner.extendee)
      → AllByRecursion M (generated_by env.scope s) → own_faults env s ≡ []
      → FieldIsNamed (field_statement_of (with_customs env) owner s)
  statement-named env known owner (field f) e g h = field-named env known owner f e g h
  statement-named env known owner (group at label name number fields) e g h =
      record {
        stands = refl;
        each = (any (full_name env.scope name) g.0, e);
        message =
            λ n is k. absurd cc;
      }

  -- no message stands behind a field that is no map
  no-map : (b : Bool) (what x : Text) → fault_when b DanglingTypeName what ≡ []
      → AllByRecursion M (if b then x ∷ [] else [])
  no-map true what x h = absurd cc
  no-map false what x h = tt

  -- a field of a group
  grouped-named : (env : Environment) → Known env → (s : FieldStatementSyntax)
      → grouped_faults env s ≡ [] → FieldIsNamed
      (field_statement_of (with_customs env) of_message s)
  grouped-named env known (field f) h =
      field-named env known of_message f tt
      (no-map (is_map f.type_) f.name (full_name env.scope (entry_name f.name))
      (none_placed f.place (map_faults f)
      (no-left (placed f.place (map_faults f)) (field_faults env f) h)))
      (own-none env (field f) (no-right (placed f.place (map_faults f)) (field_faults env f) h))
  grouped-named env known (group at label name number fields) h = absurd cc

  -- ---- the messages behind maps and groups

  -- a message with fields alone
  message-with-named : (name : Text) (fields : List FieldDescriptor)
      (options : Option MessageOptionValues) → AllByRecursion FieldIsNamed fields
      → MessageIsNamed (message_with name fields options)
  message-with-named name fields options h =
      record { fields = all-both FieldIsNamed fields [] h tt; extensions = tt }

  -- the field of a key or a value
  entry-field-named : (name : Text) (number : ℤ) (t : FieldTypeOf) → TypeIsNamed t
      → FieldIsNamed (entry_field name number t)
  entry-field-named name number t h =
      record {
        stands = h.stands;
        each = all-both P (option_to_list t.name) [] h.each tt;
        message =
            h.message;
      }

  -- where nothing is told of two names nothing is wrong in the second
  same-clean : (env : Environment) (m n : Text) (told : Bool) → (told ≡ true → m ≡ n)
      → type_missing env m ≡ [] → if_not_told told (type_missing env n) ≡ []
      → type_missing env n ≡ []
  same-clean env m n true same none v = subst (λ (z : Text). type_missing env z ≡ []) (same refl) none
  same-clean env m n false same none v = v

  -- where nothing is told of a map's types nothing is wrong in either
  value-clean : (env : Environment) (name : Text) (key value : TypeSyntax)
      → inner_type_faults env name key ≡ []
      → if_not_told (is_told_alike key value) (inner_type_faults env name value) ≡ []
      → inner_type_faults env name value ≡ []
  value-clean env name (scalar s) value k v = v
  value-clean env name (named m) (scalar s) k v = v
  value-clean env name (named m) (named n) k v = same-clean env m n (bytes_eq m n) (bytes_eq-Decides m n).0 k v
  value-clean env name (named m) (map_of key value) k v = v
  value-clean env name (map_of key value) (scalar s) k v = v
  value-clean env name (map_of key value) (named n) k v = v
  value-clean env name (map_of key value) (map_of l w) k v = k

  -- the entry of a map
  entries-named : (env : Environment) → Known env → (name : Text) (t : TypeSyntax)
      → type_faults env name t ≡ []
      → AllByRecursion MessageIsNamed (entries_of (with_customs env) name t)
  entries-named env known name (scalar s) h = tt
  entries-named env known name (named n) h = tt
  entries-named env known name (map_of key value) h =
      let k : TypeIsNamed (type_of (with_customs env) name key) =
      inner-named env known name key
      (no-left (inner_type_faults env name key)
      (if_not_told (is_told_alike key value) (inner_type_faults env name value)) h) in
      let v : TypeIsNamed (type_of (with_customs env) name value) =
      inner-named env known name value
      (value-clean env name key value
      (no-left (inner_type_faults env name key)
      (if_not_told (is_told_alike key value) (inner_type_faults env name value)) h)
      (no-right (inner_type_faults env name key)
      (if_not_told (is_told_alike key value) (inner_type_faults env name value)) h)) in (
        message-with-named (entry_name name)
            (entry_field (codes "key") (pos 1) (type_of (with_customs env) name key)
            ∷ entry_field (codes "value") (pos 2) (type_of (with_customs env) name value) ∷ [])
            entry_options (
              entry-field-named (codes "key") (pos 1) (type_of (with_customs env) name key) k,
              (
                entry-field-named (codes "value") (pos 2)
                    (type_of (with_customs env) name value) v,
                tt,
              ),
            ),
        tt,
      )

  -- the message of a group
  group-named : (env : Environment) → Known env → (name : Text) (fields : List FieldStatementSyntax)
      → flat_map (grouped_faults env) fields ≡ []
      → MessageIsNamed (message_with name (fields_of_group (with_customs env) fields) None)
  group-named env known name fields h =
      message-with-named name (fields_of_group (with_customs env) fields) None
      (all-map FieldIsNamed (field_statement_of (with_customs env) of_message)
      (λ (s : FieldStatementSyntax). grouped_faults env s ≡ []) (grouped-named env known) fields
      (none-each (grouped_faults env) fields h))

  -- the message behind a field
  behind-named : (env : Environment) → Known env → (s : FieldStatementSyntax)
      → field_statement_faults env s ≡ []
      → AllByRecursion MessageIsNamed (messages_behind (with_customs env) s)
  behind-named env known (field f) h =
      entries-named env known f.name f.type_ (own-none env (field f) h)
  behind-named env known (group at label name number fields) h = (
    group-named env known name (group_body fields)
        (no-left (flat_map (grouped_faults env) (group_body fields))
        (duplicates (map specs.field_named (group_body fields))) h),
    tt,
  )

  -- ---- several fields

  -- a field of a message or a oneof
  abbrev FieldIsClean : Environment → FieldStatementSyntax → Type 0
  FieldIsClean env s = IsClean (field_statement_faults env) M (generated_by env.scope) s

  -- a field of an `extend`
  abbrev ExtensionIsClean : Environment → FieldStatementSyntax → Type 0
  ExtensionIsClean env s = IsClean (extension_faults env) M (generated_by env.scope) s

  -- fields of one owner
  fields-named : (env : Environment) → Known env
      → (owner : FieldOwner) (ss : List FieldStatementSyntax)
      → AllByRecursion P (option_to_list owner.extendee) → AllByRecursion (FieldIsClean env) ss
      → AllByRecursion FieldIsNamed (map (field_statement_of (with_customs env) owner) ss)
  fields-named env known owner ss e h =
      all-map FieldIsNamed (field_statement_of (with_customs env) owner) (FieldIsClean env)
      (λ (s : FieldStatementSyntax)
      (c : FieldIsClean env s). statement-named env known owner s e c.each
      (own-none env s c.none)) ss h

  -- the messages behind them
  behinds-named : (env : Environment) → Known env → (ss : List FieldStatementSyntax)
      → AllByRecursion (FieldIsClean env) ss
      → AllByRecursion MessageIsNamed (flat_map (messages_behind (with_customs env)) ss)
  behinds-named env known ss h =
      all-flat MessageIsNamed (messages_behind (with_customs env)) (FieldIsClean env)
      (λ (s : FieldStatementSyntax) (c : FieldIsClean env s). behind-named env known s c.none)
      ss h

  -- a field of an `extend`
  extension-named : (env : Environment) → Known env → (extendee : Text)
      → type_missing env extendee ≡ [] → (s : FieldStatementSyntax) → ExtensionIsClean env s
      → ExtensionIsNamed
      (field_statement_of (with_customs env) (extending (with_customs env) extendee) s)
  extension-named env known extendee meant s c =
      record {
        is_field = statement-named env known (extending (with_customs env) extendee) s
            (full-each (type_named env extendee) (known env.scope extendee)) c.each
            (own-none env s (extension-none env s c.none));
        extends = ap (λ (o : Option Text). is_some o)
            (extendee-is (with_customs env) (extending (with_customs env) extendee) s)
            ∙ full-stands extendee (type_named env extendee) meant;
      }

  -- nothing is wrong in them
  fields-none : (env : Environment) (e : ExtendSyntax) → extend_faults env e ≡ []
      → flat_map (extension_faults env) e.fields ≡ []
  fields-none env e h =
      no-right (placed e.place (extendee_faults env e.extendee e.fields))
      (flat_map (extension_faults env) e.fields) h

  -- fields that extend the message of that name
  fields-extend : (env : Environment) → Known env
      → (extendee : Text) (ss : List FieldStatementSyntax) → extendee_faults env extendee ss ≡ []
      → flat_map (extension_faults env) ss ≡ []
      → AllByRecursion M (flat_map (generated_by env.scope) (flat_map groups ss))
      → AllByRecursion ExtensionIsNamed
      (map (field_statement_of (with_customs env) (extending (with_customs env) extendee)) ss)
  fields-extend env known extendee [] meant h g = tt
  fields-extend env known extendee (s ∷ ss) meant h g =
      all-map ExtensionIsNamed
      (field_statement_of (with_customs env) (extending (with_customs env) extendee))
      (ExtensionIsClean env) (extension-named env known extendee meant) (s ∷ ss)
      (clean-each (extension_faults env) M (generated_by env.scope) (s ∷ ss) h
      (subst (AllByRecursion M)
      (groups-tell env (generated_by env.scope) (generates-none env) (s ∷ ss) h) g))

  -- the fields of an `extend`
  extend-named : (env : Environment) → Known env → (e : ExtendSyntax) → extend_faults env e ≡ []
      → AllByRecursion M (flat_map (generated_by env.scope) (flat_map groups e.fields))
      → AllByRecursion ExtensionIsNamed (extend_fields (with_customs env) e)
  extend-named env known e h g =
      fields-extend env known e.extendee e.fields
      (none_placed e.place (extendee_faults env e.extendee e.fields)
      (no-left (placed e.place (extendee_faults env e.extendee e.fields))
      (flat_map (extension_faults env) e.fields) h))
      (fields-none env e h) g

  -- the messages behind them
  extend-behind : (env : Environment) → Known env → (e : ExtendSyntax) → extend_faults env e ≡ []
      → AllByRecursion MessageIsNamed
      (flat_map (messages_behind (with_customs env)) (flat_map groups e.fields))
  extend-behind env known e h =
      subst (AllByRecursion MessageIsNamed)
      (sym (groups-tell env (messages_behind (with_customs env))
      (stands-alone (with_customs env)) e.fields (fields-none env e h)))
      (all-flat MessageIsNamed (messages_behind (with_customs env))
      (λ (s : FieldStatementSyntax). extension_faults env s ≡ [])
      (λ (s : FieldStatementSyntax) (k : extension_faults env s ≡ []). behind-named env known s
      (extension-none env s k))
      e.fields (none-each (extension_faults env) e.fields (fields-none env e h)))

  -- ---- the statements of a message

  -- a statement of a message
  abbrev StatementIsClean : Environment → MessageStatementSyntax → Type 0
  StatementIsClean env s = IsClean (messages.statement_faults env) M (generated_of env.scope) s

  -- a field of a message extends nothing
  no-extendee : (b : Bool) (index : ℕ)
      → AllByRecursion P (option_to_list (if b then at_oneof index else of_message).extendee)
  no-extendee true index = tt
  no-extendee false index = tt

  -- the fields of a oneof
  oneof-clean : (env : Environment) (o : OneofSyntax) → oneof_faults env o ≡ []
      → AllByRecursion M (flat_map (generated_by env.scope) (flat_map oneof_fields o.body))
      → AllByRecursion (FieldIsClean env) (flat_map oneof_fields o.body)
  oneof-clean env o h g =
      clean-each (field_statement_faults env) M (generated_by env.scope)
      (flat_map oneof_fields o.body)
      (no-left (flat_map (field_statement_faults env) (flat_map oneof_fields o.body))
      (construct_faults env of.Oneof oneof_table (options_in_oneof o)) h) g

  -- the fields of a statement
  fields-of : (env : Environment) → Known env → (index : ℕ) (s : MessageStatementSyntax)
      → StatementIsClean env s → AllByRecursion FieldIsNamed (fields_of (with_customs env) index s)
  fields-of env known index (message_field f) c = (
    statement-named env known
        (if has_own_oneof (with_customs env) f then at_oneof index else of_message) f
        (no-extendee (has_own_oneof (with_customs env) f) index) c.each (own-none env f c.none),
    tt,
  )
  fields-of env known index (message_oneof o) c =
      fields-named env known (at_oneof index) (flat_map oneof_fields o.body) tt
      (oneof-clean env o c.none c.each)
  fields-of env known index _ c = tt

  -- the fields of a body
  fields-from : (env : Environment) → Known env → (index : ℕ) (ss : List MessageStatementSyntax)
      → AllByRecursion (StatementIsClean env) ss
      → AllByRecursion FieldIsNamed (fields_from (with_customs env) index ss)
  fields-from env known index [] h = tt
  fields-from env known index (s ∷ ss) h =
      all-both FieldIsNamed (fields_of (with_customs env) index s)
      (fields_from (with_customs env) (index + length (oneofs_of (with_customs env) s)) ss)
      (fields-of env known index s h.0)
      (fields-from env known (index + length (oneofs_of (with_customs env) s)) ss h.1)

  -- the extensions of a statement
  extensions-of : (env : Environment) → Known env → (s : MessageStatementSyntax)
      → StatementIsClean env s
      → AllByRecursion ExtensionIsNamed (messages.extended_of (with_customs env) s)
  extensions-of env known (message_extend e) c = extend-named env known e c.none c.each
  extensions-of env known _ c = tt

  -- ---- messages

  -- the fields of messages inside another
  nested-fields : (ms : List MessageDescriptor) → AllByRecursion MessageIsNamed ms
      → AllByRecursion FieldIsNamed
      (down_from_all (λ (p : MessageParts). p.field) (messages_of_list ms))
  nested-fields [] h = tt
  nested-fields (m ∷ ms) h =
      all-both FieldIsNamed (down_from (λ (p : MessageParts). p.field) m)
      (down_from_all (λ (p : MessageParts). p.field) (messages_of_list ms)) h.0.fields
      (nested-fields ms h.1)

  -- their extensions
  nested-extensions : (ms : List MessageDescriptor) → AllByRecursion MessageIsNamed ms
      → AllByRecursion ExtensionIsNamed
      (down_from_all (λ (p : MessageParts). p.extension) (messages_of_list ms))
  nested-extensions [] h = tt
  nested-extensions (m ∷ ms) h =
      all-both ExtensionIsNamed (down_from (λ (p : MessageParts). p.extension) m)
      (down_from_all (λ (p : MessageParts). p.extension) (messages_of_list ms)) h.0.extensions
      (nested-extensions ms h.1)

  -- a message, by its statements and the messages inside it
  message-named : (env : Environment) → Known env
      → (name : Text) (body : List MessageStatementSyntax) (ms : List MessageDescriptor)
      → AllByRecursion (StatementIsClean (env_inside env name)) body
      → AllByRecursion MessageIsNamed ms
      → MessageIsNamed (message_from (with_customs env) name body ms)
  message-named env known name body ms h k = record {
    fields = all-both FieldIsNamed (fields_from (with_customs (env_inside env name)) 0 body)
        (down_from_all (λ (p : MessageParts). p.field) (messages_of_list ms))
        (fields-from (env_inside env name) known 0 body h) (nested-fields ms k);
    extensions = all-both ExtensionIsNamed
        (flat_map (messages.extended_of (with_customs (env_inside env name))) body)
        (down_from_all (λ (p : MessageParts). p.extension) (messages_of_list ms))
        (all-flat ExtensionIsNamed (messages.extended_of (with_customs (env_inside env name)))
        (StatementIsClean (env_inside env name))
        (extensions-of (env_inside env name) known) body h) (nested-extensions ms k);
  }

  -- the statements of a message inside another
  clean-in : (env : Environment) (ss : MessageStatementList) → faults_in env ss ≡ []
      → AllByRecursion M (generated_in env.scope ss)
      → AllByRecursion (StatementIsClean env) (message_body ss)
  clean-in env no_statements h g = tt
  clean-in env (more_statements s ss) h g = (
    record {
      none = no-left (messages.statement_faults env s) (faults_in env ss) h;
      each =
          all-left M (generated_of env.scope s) (generated_in env.scope ss) g;
    },
    clean-in env ss (no-right (messages.statement_faults env s) (faults_in env ss) h)
        (all-right M (generated_of env.scope s) (generated_in env.scope ss) g),
  )

  mutual
    -- the messages of a statement
    nested-of : (env : Environment) → Known env → (s : MessageStatementSyntax)
        → messages.statement_faults env s ≡ [] → AllByRecursion M (generated_of env.scope s)
        → AllByRecursion MessageIsNamed (nested_of (with_customs env) s)
    nested-of env known (message_message at name body) h g =
        let none : faults_in (env_inside env name) body
        ≡ [] = no-left (faults_in (env_inside env name) body)
        (whole_faults env name (message_body body)) h in (
          message-named env known name (message_body body)
              (nested_in (with_customs (env_inside env name)) body)
              (clean-in (env_inside env name) body none g)
              (nested-in (env_inside env name) known body none g),
          tt,
        )
    nested-of env known (message_field f) h g = behind-named env known f h
    nested-of env known (message_oneof o) h g =
        behinds-named env known (flat_map oneof_fields o.body) (oneof-clean env o h g)
    nested-of env known (message_extend e) h g = extend-behind env known e h
    nested-of env known _ h g = tt

    -- the messages of statements
    nested-in : (env : Environment) → Known env → (ss : MessageStatementList)
        → faults_in env ss ≡ [] → AllByRecursion M (generated_in env.scope ss)
        → AllByRecursion MessageIsNamed (nested_in (with_customs env) ss)
    nested-in env known no_statements h g = tt
    nested-in env known (more_statements s ss) h g =
        all-both MessageIsNamed (nested_of (with_customs env) s) (nested_in (with_customs env) ss)
        (nested-of env known s (no-left (messages.statement_faults env s) (faults_in env ss) h)
        (all-left M (generated_of env.scope s) (generated_in env.scope ss) g))
        (nested-in env known ss (no-right (messages.statement_faults env s) (faults_in env ss) h)
        (all-right M (generated_of env.scope s) (generated_in env.scope ss) g))

  -- ---- services

  -- a method
  method-named : (env : Environment) → Known env → (m : MethodSyntax) → method_faults env m ≡ []
      → MethodIsNamed (method_of (with_customs env) m)
  method-named env known m h =
      let options = construct_faults env of.Method method_table (options_of_method m) in
      let output = if_not_told (bytes_eq m.output m.input) (type_missing env m.output) in
      let missing = type_missing env m.input ++ output in
      let types : missing
      ≡ [] = none_placed m.place missing (no-left (placed m.place missing) options h) in (
        full-named m.input (type_named env m.input) (known env.scope m.input)
            (no-left (type_missing env m.input) output types),
        (
          full-named m.output (type_named env m.output) (known env.scope m.output)
              (same-clean env m.input m.output (bytes_eq m.output m.input)
              (λ e. sym ((bytes_eq-Decides m.output m.input).0 e))
              (no-left (type_missing env m.input) output types)
              (no-right (type_missing env m.input) output types)),
          tt,
        ),
      )

  -- a service
  service-named : (env : Environment) → Known env → (s : ServiceSyntax) → service_faults env s ≡ []
      → ServiceIsNamed (service_of (with_customs env) s)
  service-named env known s h =
      let methods = flat_map methods_in s.body in
      let none : flat_map (method_faults env) methods
      ≡ [] = no-right (duplicates (map method_named methods))
      (flat_map (method_faults env) methods)
      (no-left (methods_faults env methods)
      (construct_faults env of.Service service_table (options_of_service s)) h) in
      all-flat P names_of_method MethodIsNamed (λ (m : MethodDescriptor) (k : MethodIsNamed m). k)
      (map (method_of (with_customs env)) methods)
      (all-map MethodIsNamed (method_of (with_customs env))
      (λ (m : MethodSyntax). method_faults env m ≡ []) (method-named env known) methods
      (none-each (method_faults env) methods none))

  -- ---- files

  -- a statement of a file
  abbrev FileStatementIsClean : Environment → StatementSyntax → Type 0
  FileStatementIsClean env s =
      IsClean (files.file_faults_of env) M (statement_generated env.scope) s

  -- the messages of a statement
  messages-of : (env : Environment) → Known env → (s : StatementSyntax) → FileStatementIsClean env s
      → AllByRecursion MessageIsNamed (file_messages_of (with_customs env) s)
  messages-of env known (file_message m) c = nested-of env known (nested_message m) c.none c.each
  messages-of env known (file_extend e) c = extend-behind env known e c.none
  messages-of env known _ c = tt

  -- the extensions of a statement
  file-extensions-of : (env : Environment) → Known env → (s : StatementSyntax)
      → FileStatementIsClean env s
      → AllByRecursion ExtensionIsNamed (files.file_extensions_of (with_customs env) s)
  file-extensions-of env known (file_extend e) c = extend-named env known e c.none c.each
  file-extensions-of env known _ c = tt

  -- the services of a statement
  services-of : (env : Environment) → Known env → (s : StatementSyntax) → FileStatementIsClean env s
      → AllByRecursion ServiceIsNamed (services_of (with_customs env) s)
  services-of env known (file_service s) c = (service-named env known s c.none, tt)
  services-of env known _ c = tt

  -- a file
  file-named : (env : Environment) → Known env → (path : Text) (t : FileSyntax)
      → file_faults env t ≡ []
      → AllByRecursion M (flat_map (statement_generated env.scope) t.statements)
      → FileIsNamed (file_of (with_customs env) path t)
  file-named env known path t h g =
      let options = construct_faults env of.File file_table (options_of_statements t.statements) in
      let inner = flat_map (files.file_faults_of env) t.statements in
      let none : inner ≡ [] = no-right options inner
      (no-left (options ++ inner) (file_duplicates t.statements) h) in
      let clean : AllByRecursion (FileStatementIsClean env) t.statements =
      clean-each (files.file_faults_of env) M
      (statement_generated env.scope) t.statements none g in
      let ms = flat_map (file_messages_of (with_customs env)) t.statements in
      let all : AllByRecursion MessageIsNamed ms =
      all-flat MessageIsNamed (file_messages_of (with_customs env)) (FileStatementIsClean env)
      (messages-of env known) t.statements clean in
      record {
        fields = all-flat FieldIsNamed (down_from (λ (p : MessageParts). p.field)) MessageIsNamed
            (λ (m : MessageDescriptor) (k : MessageIsNamed m). k.fields) ms all;
        extensions = all-both ExtensionIsNamed
            (flat_map (down_from (λ (p : MessageParts). p.extension)) ms)
            (flat_map (files.file_extensions_of (with_customs env)) t.statements)
            (all-flat ExtensionIsNamed (down_from (λ (p : MessageParts). p.extension))
            MessageIsNamed (λ (m : MessageDescriptor) (k : MessageIsNamed m). k.extensions) ms
            all)
            (all-flat ExtensionIsNamed (files.file_extensions_of (with_customs env))
            (FileStatementIsClean env) (file-extensions-of env known) t.statements clean);
        services = all-flat P names_of_service ServiceIsNamed
            (λ (s : ServiceDescriptor) (k : ServiceIsNamed s). k)
            (flat_map (services_of (with_customs env)) t.statements)
            (all-flat ServiceIsNamed (services_of (with_customs env)) (FileStatementIsClean env)
            (services-of env known) t.statements clean);
      }

  -- the names in a file
  names-each : (f : FileDescriptor) → FileIsNamed f → AllByRecursion P (type_names_in f)
  names-each f h =
      let fields = flat_map names_of_field (fields_in f) in
      let extensions = flat_map names_of_field (extended_in f) in
      let services = flat_map names_of_service f.service in
      all-both P (fields ++ extensions) services
      (all-both P fields extensions
      (all-flat P names_of_field FieldIsNamed (λ (d : FieldDescriptor) (k : FieldIsNamed d). k.each)
      (fields_in f) h.fields)
      (all-flat P names_of_field ExtensionIsNamed
      (λ (d : FieldDescriptor) (k : ExtensionIsNamed d). k.is_field.each)
      (extended_in f) h.extensions))
      h.services

-- ---- the laws

-- a type of that name is declared in the files, or generated behind the file's own maps and groups
abbrev Stands : List FileSyntax → FileSyntax → Text → Type 0
Stands seen t name = Among (names_declared seen ++ file_generated t) name

-- so is a message of that name
abbrev MessageStands : List FileSyntax → FileSyntax → Text → Type 0
MessageStands seen t name = Among (messages_declared seen ++ file_generated t) name

-- a message is a type
is-type : (seen : List FileSyntax) (t : FileSyntax) (name : Text) → MessageStands seen t name
    → Stands seen t name
is-type seen t name h =
    front (messages_declared seen) (names_declared seen) (file_generated t) name
    (message-told (types_of_files seen)) h

-- all of this of a file that sees these
abbrev IsNamed : List FileSyntax → FileSyntax → Customs → FileDescriptor → Type 0
IsNamed seen t customs f =
    FileIsNamed (Stands seen t) (MessageStands seen t) (is-type seen t) customs f

abbrev IsField : List FileSyntax → FileSyntax → Customs → FieldDescriptor → Type 0
IsField seen t customs f =
    FieldIsNamed (Stands seen t) (MessageStands seen t) (is-type seen t) customs f

abbrev IsExtension : List FileSyntax → FileSyntax → Customs → FieldDescriptor → Type 0
IsExtension seen t customs f =
    ExtensionIsNamed (Stands seen t) (MessageStands seen t) (is-type seen t) customs f

-- a file without faults
sound : (seen : List FileSyntax) (checked customs : Customs) (path : Text) (t : FileSyntax)
    → file_faults (environment seen checked t) t ≡ []
    → IsNamed seen t customs (file_of (environment seen customs t) path t)
sound seen checked customs path t h =
    file-named (Stands seen t) (MessageStands seen t) (is-type seen t) customs
    (environment seen checked t)
    (λ (scope : Scope) (name : Text) (d : DeclaredType) e. let stands =
    meaning_declared (types_of_files seen) scope name d e in (
      among_left (file_generated t)
          (among-map (λ (x : DeclaredType). x.name) (types_of_files seen) d stands),
      λ is. among_left (file_generated t) (message-from (types_of_files seen) d stands is),
    ))
    path t h
    (all-from (MessageStands seen t) (file_generated t)
    (λ (name : Text) k. among_right (messages_declared seen) k))

-- each name of a type is that of a declared type
pub names_are_declared : NamesAreDeclared
names_are_declared seen checked customs path t name h k =
    all-among (Stands seen t) k
    (names-each (Stands seen t) (MessageStands seen t) (is-type seen t) customs
    (file_of (environment seen customs t) path t) (sound seen checked customs path t h))

-- each field and extension is named so
field-is : (seen : List FileSyntax) (checked customs : Customs) (path : Text) (t : FileSyntax)
    (f : FieldDescriptor) → file_faults (environment seen checked t) t ≡ []
    → Among (fields_in (file_of (environment seen customs t) path t)
    ++ extended_in (file_of (environment seen customs t) path t)) f → IsField seen t customs f
field-is seen checked customs path t f h k =
    let file = file_of (environment seen customs t) path t in
    let s : IsNamed seen t customs file = sound seen checked customs path t h in
    let extensions : AllByRecursion (IsField seen t customs) (extended_in file) =
    each (extended_in file) s.extensions in
    let all : AllByRecursion (IsField seen t customs) (fields_in file ++ extended_in file) =
    all-both (IsField seen t customs) (fields_in file)
    (extended_in file) s.fields extensions in
    all-among (IsField seen t customs) k all
  where
    each : (fs : List FieldDescriptor) → AllByRecursion (IsExtension seen t customs) fs
        → AllByRecursion (IsField seen t customs) fs
    each [] w = tt
    each (d ∷ ds) w = (w.0.is_field, each ds w.1)

-- each field and extension says the name of its type where it has one
pub types_are_named : TypesAreNamed
types_are_named seen checked customs path t f h k =
    let is : IsField seen t customs f = field-is seen checked customs path t f h k in
    is.stands

-- each extension says what it extends
pub extendees_are_named : ExtendeesAreNamed
extendees_are_named seen checked customs path t f h k =
    let is : IsExtension seen t customs f =
    all-among (IsExtension seen t customs) k (sound seen checked customs path t h).extensions in
    is.extends

-- the type of a field that has a message is a message
pub messages_are_named : MessagesAreNamed
messages_are_named seen checked customs path t f name h k is says =
    let of_field : IsField seen t customs f = field-is seen checked customs path t f h k in
    of_field.message name is says
