-- A body with one statement more.
use Rattle.std.proofs.Common.{◌≡◌, ℕ, ◌+◌, ◌≤◌, Bool, true, false, cond, List, [], ◌∷◌, ◌++◌}
use Rattle.std.proofs.Common.{flat_map, length, length-append, map, refl, sym, ◌∙◌, ap, arith}
use Rattle.std.proofs.lemmas.Grind.{flat_map-append}
use Rattle.std.proofs.lemmas.List.{append-nil, length-map}
use Rattle.protobuf_parse_syntax.specs.Trees.{ExtendSyntax, file_extend, FieldStatementSyntax}
use Rattle.protobuf_parse_syntax.specs.Trees.{field, group, OneofSyntax, MessageStatementSyntax}
use Rattle.protobuf_parse_syntax.specs.Trees.{message_reserved, message_oneof, message_extend}
use Rattle.protobuf_parse_syntax.specs.Trees.{message_message, message_enum, message_extensions}
use Rattle.protobuf_parse_syntax.specs.Trees.{message_option, message_field, TypeSyntax, scalar}
use Rattle.protobuf_parse_syntax.specs.Trees.{named, map_of}
use Rattle.protobuf_parse_model.specs.Descriptors.{OneofDescriptor, Text, enum_view, field_view}
use Rattle.protobuf_parse_model.specs.Descriptors.{message_view, oneof_view, service_view}
use Rattle.protobuf_parse_model.specs.Environment.{Environment}
use Rattle.protobuf_parse_model.specs.Statements.{field_statement_name, is_map, oneof_fields}
use Rattle.protobuf_parse_elaboration.specs.Parts.{BodyParts, FieldAndMessage, FieldsAndMessages}
use Rattle.protobuf_parse_elaboration.specs.Parts.{body_of, body_view, field_declared_by}
use Rattle.protobuf_parse_elaboration.specs.Parts.{extensions_declared}
use Rattle.protobuf_parse_elaboration.specs.Parts.{with_body_statement}
use Rattle.protobuf_parse_elaboration.specs.Fields.{FieldOwner, field_statement_of}
use Rattle.protobuf_parse_elaboration.specs.Messages.{entries_of, enums_of, extending, extended_of}
use Rattle.protobuf_parse_elaboration.specs.Messages.{fields_of, has_own_oneof, at_oneof, nested_of}
use Rattle.protobuf_parse_elaboration.specs.Messages.{messages_behind}
use Rattle.protobuf_parse_elaboration.specs.Messages.{oneof_of, oneofs_of, own_oneof, own_oneof_of}
use Rattle.protobuf_parse_elaboration.specs.FileParts.{parts_view, with_file_statement}
use Rattle.protobuf_parse_elaboration.specs.declared.constructs.body.Body.{Body}
use Rattle.protobuf_parse_elaboration.specs.declared.constructs.contents.Contents.{Contents}
use Rattle.protobuf_parse_elaboration.proofs.Levels.{fields_from-append}

name_is : (env : Environment) (owner : FieldOwner) (s : FieldStatementSyntax)
    → (field_statement_of env owner s).name ≡ field_statement_name s
name_is env owner (field f) = refl
name_is env owner (group at label name number fields) = refl

module _ (env : Environment) (old new : Body) (index : ℕ) (one : OneofDescriptor)
    (same : index ≡ length old.oneof_decl.items)
    (oneofs : map oneof_view new.oneof_decl.items ≡ map oneof_view old.oneof_decl.items ++ one ∷ [])
    (enums : map enum_view new.enum_type.items ≡ map enum_view old.enum_type.items)
    (extensions : map field_view new.extension.items ≡ map field_view old.extension.items) where
  place_is : index ≡ length (map oneof_view old.oneof_decl.items)
  place_is = same ∙ sym (length-map old.oneof_decl.items oneof_view)

  pub with_oneof : (o : OneofSyntax) → let ss = flat_map oneof_fields o.body in
      one ≡ oneof_of env o
      → map field_view new.field.items
      ≡ map field_view old.field.items ++ map (field_statement_of env (at_oneof index)) ss
      → map message_view new.nested_type.items
      ≡ map message_view old.nested_type.items ++ flat_map (messages_behind env) ss
      → body_view new ≡ with_body_statement env (body_view old) (message_oneof o)
  with_oneof o one_is fields nested =
      rw (
        fields,
        nested,
        oneofs,
        enums,
        extensions,
        one_is,
        place_is,
        append-nil (map enum_view old.enum_type.items),
        append-nil (map field_view old.extension.items),
      ) refl

  pub with_own : (s : FieldStatementSyntax) (d : FieldAndMessage) → has_own_oneof env s ≡ true
      → d ≡ field_declared_by env (at_oneof index) s → one ≡ own_oneof_of d.field.name
      → map field_view new.field.items ≡ map field_view old.field.items ++ d.field ∷ []
      → map message_view new.nested_type.items ≡ map message_view old.nested_type.items ++ d.behind
      → body_view new ≡ with_body_statement env (body_view old) (message_field s)
  with_own s d own is one_is fields nested =
      rw (
        fields,
        nested,
        oneofs,
        enums,
        extensions,
        one_is,
        is,
        name_is env (at_oneof index) s,
        own,
        place_is,
        append-nil (map enum_view old.enum_type.items),
        append-nil (map field_view old.extension.items),
      ) refl

pub with_extend : (env : Environment) (old new : Body) (e : ExtendSyntax) (d : FieldsAndMessages)
    → d ≡ extensions_declared env (extending env e.extendee) e.fields
    → map field_view new.extension.items ≡ map field_view old.extension.items ++ d.fields
    → map message_view new.nested_type.items ≡ map message_view old.nested_type.items ++ d.behind
    → map field_view new.field.items ≡ map field_view old.field.items
    → map oneof_view new.oneof_decl.items ≡ map oneof_view old.oneof_decl.items
    → map enum_view new.enum_type.items ≡ map enum_view old.enum_type.items
    → body_view new ≡ with_body_statement env (body_view old) (message_extend e)
with_extend env old new e d is extensions nested fields oneofs enums =
    rw (
      extensions,
      nested,
      fields,
      oneofs,
      enums,
      is,
      append-nil (map field_view old.field.items),
      append-nil (map oneof_view old.oneof_decl.items),
      append-nil (map enum_view old.enum_type.items),
    ) refl

-- the same of what a file declares
pub file_with_extend : (env : Environment) (old new : Contents) (e : ExtendSyntax)
    (d : FieldsAndMessages) → d ≡ extensions_declared env (extending env e.extendee) e.fields
    → map field_view new.extension.items ≡ map field_view old.extension.items ++ d.fields
    → map message_view new.message_type.items ≡ map message_view old.message_type.items ++ d.behind
    → map enum_view new.enum_type.items ≡ map enum_view old.enum_type.items
    → map service_view new.service.items ≡ map service_view old.service.items
    → parts_view new ≡ with_file_statement env (parts_view old) (file_extend e)
file_with_extend env old new e d is extensions messages enums services =
    rw (
      extensions,
      messages,
      enums,
      services,
      is,
      append-nil (map enum_view old.enum_type.items),
      append-nil (map service_view old.service.items),
    ) refl

-- ---- a body, statement by statement

pub body_more : (env : Environment) (ss : List MessageStatementSyntax) (s : MessageStatementSyntax)
    → with_body_statement env (body_of env ss) s ≡ body_of env (ss ++ s ∷ [])
body_more env ss s =
    let n = length (flat_map (oneofs_of env) ss) in
    let same : 0 + n ≡ n = omega arith in
    rw (
      fields_from-append env 0 ss (s ∷ []),
      same,
      flat_map-append (oneofs_of env) ss (s ∷ []),
      flat_map-append (nested_of env) ss (s ∷ []),
      flat_map-append (enums_of env) ss (s ∷ []),
      flat_map-append (extended_of env) ss (s ∷ []),
      append-nil (fields_of env n s),
      append-nil (oneofs_of env s),
      append-nil (nested_of env s),
      append-nil (enums_of env s),
      append-nil (extended_of env s),
    ) refl

-- no statement has more than one oneof
pub few_more : (env : Environment) (old new : Body) (s : MessageStatementSyntax) (n : ℕ)
    → body_view new ≡ with_body_statement env (body_view old) s → length old.oneof_decl.items ≤ n
    → length new.oneof_decl.items ≤ n + 1
few_more env old new s n is few =
    let a = length-map new.oneof_decl.items oneof_view in
    let b = length-map old.oneof_decl.items oneof_view in
    let c = ap (λ (p : BodyParts). length p.oneof_decl) is in
    let d = length-append (map oneof_view old.oneof_decl.items) (oneofs_of env s) in
    let e = at_most s in
    omega (arith, a, b, c, d, e, few)
  where
    own : (b : Bool) (o : OneofDescriptor) → length (cond b (o ∷ []) []) ≤ 1
    own true o = omega arith
    own false o = omega arith

    at_most : (s : MessageStatementSyntax) → length (oneofs_of env s) ≤ 1
    at_most (message_oneof o) = omega arith
    at_most (message_field f) = own (has_own_oneof env f) (own_oneof f)
    at_most (message_reserved r) = omega arith
    at_most (message_extend e) = omega arith
    at_most (message_message at name body) = omega arith
    at_most (message_enum e) = omega arith
    at_most (message_extensions e) = omega arith
    at_most (message_option o) = omega arith

-- behind a field that is no map stands no message
pub no_entries : (env : Environment) (name : Text) (t : TypeSyntax) → is_map t ≡ false
    → entries_of env name t ≡ []
no_entries env name (scalar s) h = refl
no_entries env name (named n) h = refl
no_entries env name (map_of key value) h = absurd cc
