-- The bytes of each set of options stand in what its construct becomes.
use Rattle.std.proofs.Common.{◌≡◌, ℕ, ◌+◌, List, [], ◌∷◌, ◌++◌, map, flat_map, length, Option, Some}
use Rattle.std.proofs.Common.{None, refl, sym, ap, ◌∙◌, inl, inr, ◌⊎◌, suc}
use Rattle.protobuf_parse_syntax.specs.Trees.{OptionSyntax, FieldSyntax, FieldStatementSyntax}
use Rattle.protobuf_parse_syntax.specs.Trees.{field, group, TypeSyntax, scalar, map_of, named}
use Rattle.protobuf_parse_syntax.specs.Trees.{EnumValueSyntax, EnumSyntax, MessageStatementSyntax}
use Rattle.protobuf_parse_syntax.specs.Trees.{message_oneof, message_extend, message_message}
use Rattle.protobuf_parse_syntax.specs.Trees.{message_enum, message_field, MessageStatementList}
use Rattle.protobuf_parse_syntax.specs.Trees.{no_statements, more_statements, nested_message}
use Rattle.protobuf_parse_syntax.specs.Trees.{MethodSyntax, ServiceSyntax, StatementSyntax}
use Rattle.protobuf_parse_syntax.specs.Trees.{file_message, file_enum, file_extend, file_service}
use Rattle.protobuf_parse_syntax.specs.Trees.{FileSyntax}
use Rattle.protobuf_parse_model.specs.declared.customs.Construct.TheVariants as of
use Rattle.protobuf_parse_model.specs.Descriptors.{Text, MessageDescriptor, MessageParts, a_message}
use Rattle.protobuf_parse_model.specs.Descriptors.{messages_list, FieldDescriptor}
use Rattle.protobuf_parse_model.proofs.Levels.{list_of_is}
use Rattle.protobuf_parse_model.specs.Descriptors.{EnumDescriptor, EnumValueDescriptor}
use Rattle.protobuf_parse_model.specs.Descriptors.{ServiceDescriptor, MethodDescriptor}
use Rattle.protobuf_parse_model.specs.Descriptors.{OneofDescriptor, FileDescriptor}
use Rattle.protobuf_parse_model.specs.BuiltinOptions.{where_any}
use Rattle.protobuf_parse_model.specs.Faults.{Among, here, there}
use Rattle.protobuf_parse_model.specs.Statements.{group_body, message_body, oneof_fields, groups}
use Rattle.protobuf_parse_model.specs.Declarations.{Scope, inside, full_name}
use Rattle.protobuf_parse_model.specs.Environment.{Environment, Customs, env_inside}
use Rattle.protobuf_parse_elaboration.specs.Fields.{FieldOwner, of_message, field_of}
use Rattle.protobuf_parse_elaboration.specs.Fields.{field_statement_of}
use Rattle.protobuf_parse_elaboration.specs.Enums.{enum_values, options_of_enum, value_of, enum_of}
use Rattle.protobuf_parse_elaboration.specs.Services.{methods_in, options_of_service}
use Rattle.protobuf_parse_elaboration.specs.Services.{options_of_method, method_of, service_of}
use Rattle.protobuf_parse_elaboration.specs.Messages as messages
use Rattle.protobuf_parse_elaboration.specs.Messages.{entries_of, messages_behind, options_in_oneof}
use Rattle.protobuf_parse_elaboration.specs.Messages.{oneofs_of, at_oneof, fields_of, fields_from}
use Rattle.protobuf_parse_elaboration.specs.Messages.{extending, options_of_body, message_from}
use Rattle.protobuf_parse_elaboration.specs.Messages.{nested_of, nested_in}
use Rattle.protobuf_parse_elaboration.specs.FileDescriptor as files
use Rattle.protobuf_parse_elaboration.specs.FileDescriptor.{options_of_statements, environment}
use Rattle.protobuf_parse_elaboration.specs.FileDescriptor.{file_messages_of, services_of, file_of}
use Rattle.protobuf_parse_elaboration.specs.OptionSets.{OptionSet, a_set, sets_in_group, field_sets}
use Rattle.protobuf_parse_elaboration.specs.OptionSets.{value_set, enum_sets, sets_of, sets_in}
use Rattle.protobuf_parse_elaboration.specs.OptionSets.{method_set, service_sets, statement_sets}
use Rattle.protobuf_parse_elaboration.specs.OptionSets.{option_sets}
use Rattle.protobuf_parse_elaboration.specs.CustomSets.{bytes_of_set}
use Rattle.protobuf_parse_run.specs.StandingBytes.{IsStated, BytesStand}
use Rattle.protobuf_parse_run.proofs.Keeping.{first_same, rest_same}
use Rattle.protobuf_parse_elaboration.proofs.SameNames.{with_customs}

-- ---- lists

less_same : {m n : ℕ} → suc m ≡ suc n → m ≡ n
less_same h = cc

-- two lists of parts that are as long have equal parts
fronts_same : {A : Type 0} (xs vs ys ws : List A) → length xs ≡ length vs
    → xs ++ ys ≡ vs ++ ws → xs ≡ vs
fronts_same [] [] ys ws n h = refl
fronts_same [] (v ∷ vs) ys ws n h = cc
fronts_same (x ∷ xs) [] ys ws n h = cc
fronts_same (x ∷ xs) (v ∷ vs) ys ws n h =
    let one : x ≡ v = first_same h in
    let more : xs ≡ vs = fronts_same xs vs ys ws (less_same n) (rest_same h) in
    rw (one, more) refl

backs_same : {A : Type 0} (xs vs ys ws : List A) → length xs ≡ length vs
    → xs ++ ys ≡ vs ++ ws → ys ≡ ws
backs_same [] [] ys ws n h = h
backs_same [] (v ∷ vs) ys ws n h = cc
backs_same (x ∷ xs) [] ys ws n h = cc
backs_same (x ∷ xs) (v ∷ vs) ys ws n h = backs_same xs vs ys ws (less_same n) (rest_same h)

lengths_add : {A : Type 0} (xs ys vs ws : List A) → length xs ≡ length vs → length ys ≡ length ws
    → length (xs ++ ys) ≡ length (vs ++ ws)
lengths_add [] ys [] ws n m = m
lengths_add [] ys (v ∷ vs) ws n m = cc
lengths_add (x ∷ xs) ys [] ws n m = cc
lengths_add (x ∷ xs) ys (v ∷ vs) ws n m = ap suc (lengths_add xs ys vs ws (less_same n) m)

flat_length : {X A : Type 0} (f g : X → List A) → ((x : X) → length (f x) ≡ length (g x))
    → (xs : List X) → length (flat_map f xs) ≡ length (flat_map g xs)
flat_length f g each [] = refl
flat_length f g each (x ∷ xs) =
    lengths_add (f x) (flat_map f xs) (g x) (flat_map g xs) (each x) (flat_length f g each xs)

map_length : {X A : Type 0} (f g : X → A) (xs : List X) → length (map f xs) ≡ length (map g xs)
map_length f g [] = refl
map_length f g (x ∷ xs) = ap suc (map_length f g xs)

-- nothing stands in the empty list
pub in_none : {A : Type 0} {x : A} → Among [] x → ⊥
in_none h = elim h [ ]

pub among_parts : {A : Type 0} {x : A} (xs ys : List A) → Among (xs ++ ys) x
    → Among xs x ⊎ Among ys x
among_parts [] ys h = inr h
among_parts (z ∷ xs) ys here = inl here
among_parts (z ∷ xs) ys (there h) = elim (among_parts xs ys h) [
  | inl w ↦ inl (there w)
  | inr w ↦ inr w
]

-- ---- options messages

-- the bytes in an options message, none where there is no such message
abbrev custom_in : {A : Type 0} → (A → Text) → Option A → Text
custom_in custom None = []
custom_in custom (Some o) = custom o

-- those of an options message that is made where a statement stands
made_with : {A : Type 0} (custom : A → Text) (a b : A) (os : List OptionSyntax)
    → (os ≡ [] → ⊥) → where_any os a ≡ where_any os b → custom a ≡ custom b
made_with custom a b [] stated h = absurd (stated refl)
made_with custom a b (o ∷ os) stated h = ap (custom_in custom) h

module _ (one other : Customs) where
  abbrev by_one : Environment → Environment
  by_one env = with_customs one env

  abbrev by_other : Environment → Environment
  by_other env = with_customs other env

  -- the sets become the same bytes, where they have a statement
  abbrev Told : List OptionSet → Type 0
  Told sets = (s : OptionSet) → Among sets s → IsStated s
      → bytes_of_set one s ≡ bytes_of_set other s

  nothing_told : Told []
  nothing_told s h = absurd (in_none h)

  told_one : (s : OptionSet) (sets : List OptionSet)
      → (IsStated s → bytes_of_set one s ≡ bytes_of_set other s) → Told sets → Told (s ∷ sets)
  told_one s sets own rest _ here = own
  told_one s sets own rest r (there h) = rest r h

  told_both : (xs ys : List OptionSet) → Told xs → Told ys → Told (xs ++ ys)
  told_both xs ys h k s a = elim (among_parts xs ys a) [
    | inl w ↦ h s w
    | inr w ↦ k s w
  ]

  -- lists, each element of which becomes one
  map_told : {X A : Type 0} (sets : X → List OptionSet) (f g : X → A)
      → ((x : X) → f x ≡ g x → Told (sets x)) → (xs : List X) → map f xs ≡ map g xs
      → Told (flat_map sets xs)
  map_told sets f g each [] h = nothing_told
  map_told sets f g each (x ∷ xs) h =
      told_both (sets x) (flat_map sets xs) (each x (first_same h))
      (map_told sets f g each xs (rest_same h))

  -- and has one set
  each_told : {X A : Type 0} (set : X → OptionSet) (f g : X → A)
      → ((x : X) → f x ≡ g x → IsStated (set x)
      → bytes_of_set one (set x) ≡ bytes_of_set other (set x))
      → (xs : List X) → map f xs ≡ map g xs → Told (map set xs)
  each_told set f g each [] h = nothing_told
  each_told set f g each (x ∷ xs) h =
      told_one (set x) (map set xs) (each x (first_same h))
      (each_told set f g each xs (rest_same h))

  -- ---- fields

  field_told : {name : Text} (env : Environment) (p : FieldOwner) (f : FieldSyntax)
      → field_of (by_one env) p f ≡ field_of (by_other env) p f
      → Told (a_set of.Field name env.scope f.options ∷ [])
  field_told env p f h =
      told_one (a_set of.Field _ env.scope f.options) []
      (λ stated. made_with (λ o. o.custom) _ _ f.options stated
      (ap (λ (d : FieldDescriptor). d.options) h)) nothing_told

  grouped_told : (env : Environment) (within : Scope) (s : FieldStatementSyntax)
      → field_statement_of (by_one env) of_message s
      ≡ field_statement_of (by_other env) of_message s
      → Told (sets_in_group env.scope within s)
  grouped_told env within (field f) h = field_told env of_message f h
  grouped_told env within (group at label name number fields) h = nothing_told

  -- the messages behind a field are as many
  behind_length : (env : Environment) (s : FieldStatementSyntax)
      → length (messages_behind (by_one env) s) ≡ length (messages_behind (by_other env) s)
  behind_length env (group at label name number fields) = refl
  behind_length env (field f) = entries_length f.name f.type_
    where
      entries_length : (name : Text) (t : TypeSyntax)
          → length (entries_of (by_one env) name t) ≡ length (entries_of (by_other env) name t)
      entries_length name (map_of key value) = refl
      entries_length name (scalar s) = refl
      entries_length name (named n) = refl

  abbrev parts_of : MessageDescriptor → MessageParts
  parts_of (a_message parts nested) = parts

  abbrev nested_list : MessageDescriptor → List MessageDescriptor
  nested_list (a_message parts nested) = messages_list nested

  -- a field or a group, by its field and by the message behind it
  statement_of_field_told : (env : Environment) (p : FieldOwner) (s : FieldStatementSyntax)
      → field_statement_of (by_one env) p s ≡ field_statement_of (by_other env) p s
      → messages_behind (by_one env) s ≡ messages_behind (by_other env) s
      → Told (field_sets env.scope s)
  statement_of_field_told env p (field f) h k = field_told env p f h
  statement_of_field_told env p (group at label name number fields) h k =
      map_told (sets_in_group env.scope (inside env.scope name))
      (field_statement_of (by_one env) of_message) (field_statement_of (by_other env) of_message)
      (grouped_told env (inside env.scope name)) (group_body fields)
      (ap (λ (m : MessageDescriptor). (parts_of m).field) (first_same k))

  -- several in one place
  fields_told : (env : Environment) (p : FieldOwner) (ss : List FieldStatementSyntax)
      → map (field_statement_of (by_one env) p) ss ≡ map (field_statement_of (by_other env) p) ss
      → flat_map (messages_behind (by_one env)) ss ≡ flat_map (messages_behind (by_other env)) ss
      → Told (flat_map (field_sets env.scope) ss)
  fields_told env p [] h k = nothing_told
  fields_told env p (s ∷ ss) h k =
      let a = messages_behind (by_one env) s in
      let b = messages_behind (by_other env) s in
      told_both (field_sets env.scope s) (flat_map (field_sets env.scope) ss)
      (statement_of_field_told env p s (first_same h) (fronts_same a b _ _ (behind_length env s) k))
      (fields_told env p ss (rest_same h) (backs_same a b _ _ (behind_length env s) k))

  -- those of an `extend`, with the messages behind its groups
  extensions_told : (env : Environment) (p : FieldOwner) (ss : List FieldStatementSyntax)
      → map (field_statement_of (by_one env) p) ss ≡ map (field_statement_of (by_other env) p) ss
      → flat_map (messages_behind (by_one env)) (flat_map groups ss)
      ≡ flat_map (messages_behind (by_other env)) (flat_map groups ss)
      → Told (flat_map (field_sets env.scope) ss)
  extensions_told env p [] h k = nothing_told
  extensions_told env p (field f ∷ ss) h k =
      told_both (field_sets env.scope (field f)) (flat_map (field_sets env.scope) ss)
      (field_told env p f (first_same h)) (extensions_told env p ss (rest_same h) k)
  extensions_told env p (group at label name number fields ∷ ss) h k =
      let s = group at label name number fields in
      let a = messages_behind (by_one env) s in
      let b = messages_behind (by_other env) s in
      told_both (field_sets env.scope s) (flat_map (field_sets env.scope) ss)
      (statement_of_field_told env p s (first_same h) (fronts_same a b _ _ (behind_length env s) k))
      (extensions_told env p ss (rest_same h) (backs_same a b _ _ (behind_length env s) k))

  -- ---- enums and services

  enum_told : (env : Environment) (e : EnumSyntax)
      → enum_of (by_one env) e ≡ enum_of (by_other env) e → Told (enum_sets env.scope e)
  enum_told env e h =
      told_one (a_set of.Enum (full_name env.scope e.name) env.scope (options_of_enum e))
      (map (value_set env.scope (inside env.scope e.name)) (flat_map enum_values e.body))
      (λ stated. made_with (λ o. o.custom) _ _ (options_of_enum e) stated
      (ap (λ (d : EnumDescriptor). d.options) h))
      (each_told (value_set env.scope (inside env.scope e.name)) (value_of (by_one env))
      (value_of (by_other env))
      (λ (v : EnumValueSyntax) k stated. made_with (λ o. o.custom) _ _ v.options stated
      (ap (λ (d : EnumValueDescriptor). d.options) k))
      (flat_map enum_values e.body) (ap (λ (d : EnumDescriptor). d.value) h))

  service_told : (env : Environment) (s : ServiceSyntax)
      → service_of (by_one env) s ≡ service_of (by_other env) s → Told (service_sets env.scope s)
  service_told env s h =
      told_one (a_set of.Service (full_name env.scope s.name) env.scope (options_of_service s))
      (map (method_set env.scope (inside env.scope s.name)) (flat_map methods_in s.body))
      (λ stated. made_with (λ o. o.custom) _ _ (options_of_service s) stated
      (ap (λ (d : ServiceDescriptor). d.options) h))
      (each_told (method_set env.scope (inside env.scope s.name)) (method_of (by_one env))
      (method_of (by_other env))
      (λ (m : MethodSyntax) k stated. made_with (λ o. o.custom) _ _ (options_of_method m) stated
      (ap (λ (d : MethodDescriptor). d.options) k))
      (flat_map methods_in s.body) (ap (λ (d : ServiceDescriptor). d.method) h))

  -- ---- the statements of a body

  -- what a statement becomes is as long by the one as by the other
  fields_length : (env : Environment) (index : ℕ) (s : MessageStatementSyntax)
      → length (fields_of (by_one env) index s) ≡ length (fields_of (by_other env) index s)
  fields_length env index (message_field f) = refl
  fields_length env index (message_oneof o) =
      map_length (field_statement_of (by_one env) (at_oneof index))
      (field_statement_of (by_other env) (at_oneof index)) (flat_map oneof_fields o.body)
  fields_length env index _ = refl

  oneofs_length : (env : Environment) (s : MessageStatementSyntax)
      → length (oneofs_of (by_one env) s) ≡ length (oneofs_of (by_other env) s)
  oneofs_length env (message_oneof o) = refl
  oneofs_length env (message_field f) = refl
  oneofs_length env _ = refl

  enums_length : (env : Environment) (s : MessageStatementSyntax)
      → length (messages.enums_of (by_one env) s) ≡ length (messages.enums_of (by_other env) s)
  enums_length env (message_enum e) = refl
  enums_length env _ = refl

  extensions_length : (env : Environment) (s : MessageStatementSyntax)
      → length (messages.extended_of (by_one env) s)
      ≡ length (messages.extended_of (by_other env) s)
  extensions_length env (message_extend e) =
      map_length (field_statement_of (by_one env) (extending env e.extendee))
      (field_statement_of (by_other env) (extending env e.extendee)) e.fields
  extensions_length env _ = refl

  nested_length : (env : Environment) (s : MessageStatementSyntax)
      → length (nested_of (by_one env) s) ≡ length (nested_of (by_other env) s)
  nested_length env (message_message at name body) = refl
  nested_length env (message_field f) = behind_length env f
  nested_length env (message_oneof o) =
      flat_length (messages_behind (by_one env)) (messages_behind (by_other env))
      (behind_length env) (flat_map oneof_fields o.body)
  nested_length env (message_extend e) =
      flat_length (messages_behind (by_one env)) (messages_behind (by_other env))
      (behind_length env) (flat_map groups e.fields)
  nested_length env _ = refl

  -- the messages of a body, by its list
  nested_in_is : (env : Environment) (ss : MessageStatementList)
      → nested_in env ss ≡ flat_map (nested_of env) (message_body ss)
  nested_in_is env no_statements = refl
  nested_in_is env (more_statements s ss) = rw (nested_in_is env ss) refl

  -- what a body becomes is the same
  record SameBody (env : Environment) (index : ℕ) (ss : List MessageStatementSyntax)
      (ms ns : List MessageDescriptor) : Type 0 where
    field_is : fields_from (by_one env) index ss ≡ fields_from (by_other env) index ss
    oneof_is : flat_map (oneofs_of (by_one env)) ss ≡ flat_map (oneofs_of (by_other env)) ss
    enum_is : flat_map (messages.enums_of (by_one env)) ss
        ≡ flat_map (messages.enums_of (by_other env)) ss
    extension_is : flat_map (messages.extended_of (by_one env)) ss
        ≡ flat_map (messages.extended_of (by_other env)) ss
    nested_is : ms ≡ ns

  -- what a statement becomes is the same
  record SameStatement (env : Environment) (index : ℕ) (s : MessageStatementSyntax) : Type 0 where
    field_is : fields_of (by_one env) index s ≡ fields_of (by_other env) index s
    oneof_is : oneofs_of (by_one env) s ≡ oneofs_of (by_other env) s
    enum_is : messages.enums_of (by_one env) s ≡ messages.enums_of (by_other env) s
    extension_is : messages.extended_of (by_one env) s ≡ messages.extended_of (by_other env) s
    nested_is : nested_of (by_one env) s ≡ nested_of (by_other env) s

  -- the first statement of a body
  first_statement : (env : Environment) (index : ℕ) (s : MessageStatementSyntax)
      (ss : List MessageStatementSyntax) (ms ns : List MessageDescriptor)
      → SameBody env index (s ∷ ss) (nested_of (by_one env) s ++ ms)
      (nested_of (by_other env) s ++ ns) → SameStatement env index s
  first_statement env index s ss ms ns h =
      record {
        field_is = fronts_same _ _ _ _ (fields_length env index s) h.field_is;
        oneof_is = fronts_same _ _ _ _ (oneofs_length env s) h.oneof_is;
        enum_is = fronts_same _ _ _ _ (enums_length env s) h.enum_is;
        extension_is = fronts_same _ _ _ _ (extensions_length env s) h.extension_is;
        nested_is = fronts_same _ _ _ _ (nested_length env s) h.nested_is;
      }

  -- and those behind it
  rest_statements : (env : Environment) (index : ℕ) (s : MessageStatementSyntax)
      (ss : List MessageStatementSyntax) (ms ns : List MessageDescriptor)
      → SameBody env index (s ∷ ss) (nested_of (by_one env) s ++ ms)
      (nested_of (by_other env) s ++ ns)
      → SameBody env (index + length (oneofs_of (by_one env) s)) ss ms ns
  rest_statements env index s ss ms ns h =
      let back = backs_same _ _ _ _ (fields_length env index s) h.field_is in
      record {
        field_is = back
            ∙ ap (λ n. fields_from (by_other env) (index + n) ss) (sym (oneofs_length env s));
        oneof_is = backs_same _ _ _ _ (oneofs_length env s) h.oneof_is;
        enum_is = backs_same _ _ _ _ (enums_length env s) h.enum_is;
        extension_is = backs_same _ _ _ _ (extensions_length env s) h.extension_is;
        nested_is = backs_same _ _ _ _ (nested_length env s) h.nested_is;
      }

  -- a message that is the same has the same body
  same_inside : (env : Environment) (name : Text) (body : List MessageStatementSyntax)
      (ms ns : List MessageDescriptor)
      → message_from (by_one env) name body ms ≡ message_from (by_other env) name body ns
      → SameBody (env_inside env name) 0 body ms ns
  same_inside env name body ms ns h =
      record {
        field_is = ap (λ (m : MessageDescriptor). (parts_of m).field) h;
        oneof_is = ap (λ (m : MessageDescriptor). (parts_of m).oneof_decl) h;
        enum_is = ap (λ (m : MessageDescriptor). (parts_of m).enum_type) h;
        extension_is = ap (λ (m : MessageDescriptor). (parts_of m).extension) h;
        nested_is = sym (list_of_is ms) ∙ ap nested_list h ∙ list_of_is ns;
      }

  -- and the same bytes of its own
  own_told : (env : Environment) (name : Text) (body : List MessageStatementSyntax)
      (ms ns : List MessageDescriptor)
      → message_from (by_one env) name body ms ≡ message_from (by_other env) name body ns
      → IsStated (a_set of.Message (full_name env.scope name) env.scope (options_of_body body))
      → one.bytes of.Message env.scope (options_of_body body)
      ≡ other.bytes of.Message env.scope (options_of_body body)
  own_told env name body ms ns h stated =
      made_with (λ o. o.custom) _ _ (options_of_body body) stated
      (ap (λ (m : MessageDescriptor). (parts_of m).options) h)

  mutual
    -- a statement of a body
    statement_told : (env : Environment) (index : ℕ) (s : MessageStatementSyntax)
        → SameStatement env index s → Told (sets_of env.scope s)
    statement_told env index (message_message at name body) h =
        let same = first_same h.nested_is in
        told_one (a_set of.Message (full_name env.scope name) env.scope
        (options_of_body (message_body body)))
        (sets_in (env_inside env name).scope body)
        (own_told env name (message_body body) _ _ same)
        (body_told (env_inside env name) 0 body
        (same_inside env name (message_body body) _ _ same))
    statement_told env index (message_field f) h =
        statement_of_field_told env _ f (first_same h.field_is) h.nested_is
    statement_told env index (message_oneof o) h =
        told_one (a_set of.Oneof (full_name env.scope o.name) env.scope (options_in_oneof o))
        (flat_map (field_sets env.scope) (flat_map oneof_fields o.body))
        (λ stated. made_with (λ o. o.custom) _ _ (options_in_oneof o) stated
        (ap (λ (d : OneofDescriptor). d.options) (first_same h.oneof_is)))
        (fields_told env (at_oneof index) (flat_map oneof_fields o.body) h.field_is h.nested_is)
    statement_told env index (message_extend e) h =
        extensions_told env (extending env e.extendee) e.fields h.extension_is h.nested_is
    statement_told env index (message_enum e) h = enum_told env e (first_same h.enum_is)
    statement_told env index _ h = nothing_told

    -- a body
    body_told : (env : Environment) (index : ℕ) (ss : MessageStatementList)
        → SameBody env index (message_body ss) (nested_in (by_one env) ss)
        (nested_in (by_other env) ss) → Told (sets_in env.scope ss)
    body_told env index no_statements h = nothing_told
    body_told env index (more_statements s ss) h =
        let one_is = first_statement env index s (message_body ss) (nested_in (by_one env) ss)
        (nested_in (by_other env) ss) h in
        let rest = rest_statements env index s (message_body ss) (nested_in (by_one env) ss)
        (nested_in (by_other env) ss) h in
        told_both (sets_of env.scope s) (sets_in env.scope ss) (statement_told env index s one_is)
        (body_told env (index + length (oneofs_of (by_one env) s)) ss rest)

  -- ---- files

  file_messages_length : (env : Environment) (s : StatementSyntax)
      → length (file_messages_of (by_one env) s) ≡ length (file_messages_of (by_other env) s)
  file_messages_length env (file_message m) = refl
  file_messages_length env (file_extend e) =
      flat_length (messages_behind (by_one env)) (messages_behind (by_other env))
      (behind_length env) (flat_map groups e.fields)
  file_messages_length env _ = refl

  file_enums_length : (env : Environment) (s : StatementSyntax)
      → length (files.file_enums_of (by_one env) s) ≡ length (files.file_enums_of (by_other env) s)
  file_enums_length env (file_enum e) = refl
  file_enums_length env _ = refl

  file_extensions_length : (env : Environment) (s : StatementSyntax)
      → length (files.file_extensions_of (by_one env) s)
      ≡ length (files.file_extensions_of (by_other env) s)
  file_extensions_length env (file_extend e) =
      map_length (field_statement_of (by_one env) (extending env e.extendee))
      (field_statement_of (by_other env) (extending env e.extendee)) e.fields
  file_extensions_length env _ = refl

  services_length : (env : Environment) (s : StatementSyntax)
      → length (services_of (by_one env) s) ≡ length (services_of (by_other env) s)
  services_length env (file_service s) = refl
  services_length env _ = refl

  file_statement_told : (env : Environment) (s : StatementSyntax)
      → file_messages_of (by_one env) s ≡ file_messages_of (by_other env) s
      → files.file_enums_of (by_one env) s ≡ files.file_enums_of (by_other env) s
      → files.file_extensions_of (by_one env) s ≡ files.file_extensions_of (by_other env) s
      → services_of (by_one env) s ≡ services_of (by_other env) s
      → Told (statement_sets env.scope s)
  file_statement_told env (file_message m) ms es xs vs =
      statement_told env 0 (nested_message m)
      (record {
        field_is = refl;
        oneof_is = refl;
        enum_is = refl;
        extension_is = refl;
        nested_is = ms;
      })
  file_statement_told env (file_enum e) ms es xs vs = enum_told env e (first_same es)
  file_statement_told env (file_extend e) ms es xs vs =
      extensions_told env (extending env e.extendee) e.fields xs ms
  file_statement_told env (file_service s) ms es xs vs = service_told env s (first_same vs)
  file_statement_told env _ ms es xs vs = nothing_told

  file_statements_told : (env : Environment) (ss : List StatementSyntax)
      → flat_map (file_messages_of (by_one env)) ss ≡ flat_map (file_messages_of (by_other env)) ss
      → flat_map (files.file_enums_of (by_one env)) ss
      ≡ flat_map (files.file_enums_of (by_other env)) ss
      → flat_map (files.file_extensions_of (by_one env)) ss
      ≡ flat_map (files.file_extensions_of (by_other env)) ss
      → flat_map (services_of (by_one env)) ss ≡ flat_map (services_of (by_other env)) ss
      → Told (flat_map (statement_sets env.scope) ss)
  file_statements_told env [] ms es xs vs = nothing_told
  file_statements_told env (s ∷ ss) ms es xs vs =
      told_both (statement_sets env.scope s) (flat_map (statement_sets env.scope) ss)
      (file_statement_told env s (fronts_same _ _ _ _ (file_messages_length env s) ms)
      (fronts_same _ _ _ _ (file_enums_length env s) es)
      (fronts_same _ _ _ _ (file_extensions_length env s) xs)
      (fronts_same _ _ _ _ (services_length env s) vs))
      (file_statements_told env ss (backs_same _ _ _ _ (file_messages_length env s) ms)
      (backs_same _ _ _ _ (file_enums_length env s) es)
      (backs_same _ _ _ _ (file_extensions_length env s) xs)
      (backs_same _ _ _ _ (services_length env s) vs))

  file_told : (seen : List FileSyntax) (path : Text) (t : FileSyntax)
      → file_of (environment seen one t) path t ≡ file_of (environment seen other t) path t
      → Told (option_sets t)
  file_told seen path t h =
      let env = environment seen one t in
      told_one (a_set of.File [] env.scope (options_of_statements t.statements))
      (flat_map (statement_sets env.scope) t.statements)
      (λ stated. made_with (λ o. o.custom) _ _ (options_of_statements t.statements) stated
      (ap (λ (d : FileDescriptor). d.options) h))
      (file_statements_told env t.statements (ap (λ (d : FileDescriptor). d.message_type) h)
      (ap (λ (d : FileDescriptor). d.enum_type) h) (ap (λ (d : FileDescriptor). d.extension) h)
      (ap (λ (d : FileDescriptor). d.service) h))

pub bytes_stand : BytesStand
bytes_stand seen one other path t h s a stated = file_told one other seen path t h s a stated
