-- The extensions of a descriptor are those that its tree declares.
use Rattle.std.proofs.Common.{◌≡◌, List, [], ◌∷◌, ◌++◌, map, flat_map, refl, sym, ap, subst}
use Rattle.std.proofs.lemmas.Grind.{flat_map-append}
use Rattle.protobuf_parse_base.specs.Names.{absolute_text}
use Rattle.protobuf_parse_syntax.specs.Trees.{TypeSyntax, scalar, map_of, named}
use Rattle.protobuf_parse_syntax.specs.Trees.{FieldStatementSyntax, field, group}
use Rattle.protobuf_parse_syntax.specs.Trees.{MessageStatementSyntax, message_extend}
use Rattle.protobuf_parse_syntax.specs.Trees.{message_message, message_field, message_oneof}
use Rattle.protobuf_parse_syntax.specs.Trees.{MessageStatementList, no_statements, more_statements}
use Rattle.protobuf_parse_model.specs.Statements.{field_statement_name, message_body, oneof_fields}
use Rattle.protobuf_parse_model.specs.Statements.{groups}
use Rattle.protobuf_parse_model.specs.Descriptors.{Text, FieldDescriptor, MessageDescriptor}
use Rattle.protobuf_parse_model.specs.Descriptors.{messages_of_list}
use Rattle.protobuf_parse_model.specs.Faults.{Among, here, there}
use Rattle.protobuf_parse_model.specs.Declarations as names
use Rattle.protobuf_parse_model.specs.Declarations.{Declared, declare, DeclaredExtension}
use Rattle.protobuf_parse_model.specs.Environment.{Environment, env_inside}
use Rattle.protobuf_parse_elaboration.specs.Fields.{field_statement_of}
use Rattle.protobuf_parse_elaboration.specs.Messages as bodies
use Rattle.protobuf_parse_elaboration.specs.Messages.{extending, messages_behind, entries_of}
use Rattle.protobuf_parse_elaboration.specs.Messages.{message_from, nested_of, nested_in}
use Rattle.protobuf_parse_wire.specs.Declarations.{Declaration, name_within, declared_message}
use Rattle.protobuf_parse_wire.specs.Declarations.{declared_messages}
use Rattle.protobuf_parse_wire.specs.Declarations.{extensions_within}
use Rattle.protobuf_parse_options.specs.Agreement.{Comes}
use Rattle.protobuf_parse_options.proofs.Options.{SplitAmong, left, right, among_left, among_right}
use Rattle.protobuf_parse_options.proofs.Options.{split_among}
use Rattle.protobuf_parse_options.proofs.Agreement.{extensions_by, StandsIn, its_own, in_one}
use Rattle.protobuf_parse_options.proofs.Agreement.{within_append, scope_inside}

abbrev declared_in_extend : Environment → Text → FieldStatementSyntax → DeclaredExtension
declared_in_extend env extendee f =
    declare env.scope (field_statement_name f)
    (record { extendee = extendee; scope = env.scope; field = f })

comes_left : (env : Environment) (xs ys : List DeclaredExtension) (d : Declared FieldDescriptor)
    → Comes env xs d → Comes env (xs ++ ys) d
comes_left env xs ys d c =
    record { extension = c.extension; among = among_left ys c.among; is = c.is }

comes_right : (env : Environment) (xs ys : List DeclaredExtension) (d : Declared FieldDescriptor)
    → Comes env ys d → Comes env (xs ++ ys) d
comes_right env xs ys d c =
    record { extension = c.extension; among = among_right xs c.among; is = c.is }

from_extend : (env : Environment) (extendee : Text) (fs : List FieldStatementSyntax)
    (d : Declared FieldDescriptor)
    → Among (extensions_within (absolute_text env.scope)
    (map (field_statement_of env (extending env extendee)) fs)) d
    → Comes env (map (declared_in_extend env extendee) fs) d
from_extend env extendee [] d h = elim h [ ]
from_extend env extendee (field f ∷ fs) _ here =
    record { extension = declared_in_extend env extendee (field f); among = here; is = refl }
from_extend env extendee (group place label name number inner ∷ fs) _ here =
    record {
      extension = declared_in_extend env extendee (group place label name number inner);
      among = here;
      is = refl;
    }
from_extend env extendee (f ∷ fs) d (there h) =
    let c = from_extend env extendee fs d h in
    record { extension = c.extension; among = there c.among; is = c.is }

-- ---- behind a field stands no message with extensions

none_in_entry : (env : Environment) (name : Text) (t : TypeSyntax) (scope : Text)
    (m : MessageDescriptor) (d : Declared FieldDescriptor) → Among (entries_of env name t) m
    → Among (extensions_by (declared_message scope m)) d → ⊥
none_in_entry env name (map_of k v) scope _ d here h = elim h [ ]
none_in_entry env name (map_of k v) scope m d (there a) h = elim a [ ]
none_in_entry env name (scalar s) scope m d a h = elim a [ ]
none_in_entry env name (named n) scope m d a h = elim a [ ]

none_behind : (env : Environment) (f : FieldStatementSyntax) (scope : Text) (m : MessageDescriptor)
    (d : Declared FieldDescriptor) → Among (messages_behind env f) m
    → Among (extensions_by (declared_message scope m)) d → ⊥
none_behind env (field f) scope m d a h = none_in_entry env f.name f.type_ scope m d a h
none_behind env (group place label name number inner) scope _ d here h = elim h [ ]
none_behind env (group place label name number inner) scope m d (there a) h = elim a [ ]

none_behind_all : (env : Environment) (fs : List FieldStatementSyntax) (scope : Text)
    (m : MessageDescriptor) (d : Declared FieldDescriptor)
    → Among (flat_map (messages_behind env) fs) m
    → Among (extensions_by (declared_message scope m)) d → ⊥
none_behind_all env [] scope m d a h = elim a [ ]
none_behind_all env (f ∷ fs) scope m d a h =
    at (split_among (messages_behind env f) (flat_map (messages_behind env) fs) m a)
    (λ k. none_behind_all env fs scope m d k h)
  where
    at : SplitAmong (messages_behind env f) (flat_map (messages_behind env) fs) m
        → (Among (flat_map (messages_behind env) fs) m → ⊥) → ⊥
    at (left k) others = none_behind env f scope m d k h
    at (right k) others = others k

-- ---- which part of two it stands in

data OneOf (A B : Type 0) : Type 0 where
  first : A → OneOf A B
  second : B → OneOf A B

split_placed : (scope : Text) (xs ys : List FieldDescriptor) (ms ns : List MessageDescriptor)
    (d : Declared FieldDescriptor) → StandsIn scope (xs ++ ys) (ms ++ ns) d
    → OneOf (StandsIn scope xs ms d) (StandsIn scope ys ns d)
split_placed scope xs ys ms ns d (its_own h) =
    at (split_among (extensions_within scope xs) (extensions_within scope ys) d
    (subst (λ (ds : List (Declared FieldDescriptor)). Among ds d) (within_append scope xs ys) h))
  where
    at : SplitAmong (extensions_within scope xs) (extensions_within scope ys) d
        → OneOf (StandsIn scope xs ms d) (StandsIn scope ys ns d)
    at (left k) = first (its_own k)
    at (right k) = second (its_own k)
split_placed scope xs ys ms ns d (in_one m a h) = at (split_among ms ns m a)
  where
    at : SplitAmong ms ns m → OneOf (StandsIn scope xs ms d) (StandsIn scope ys ns d)
    at (left k) = first (in_one m k h)
    at (right k) = second (in_one m k h)

abbrev Holder : Text → List MessageDescriptor → Declared FieldDescriptor → Type 0
Holder scope ns d = (m : MessageDescriptor) × Among ns m
    × Among (extensions_by (declared_message scope m)) d

held_by : (scope : Text) (ns : List MessageDescriptor) (d : Declared FieldDescriptor)
    → Among (extensions_by (flat_map (declared_message scope) ns)) d → Holder scope ns d
held_by scope [] d h = elim h [ ]
held_by scope (n ∷ ns) d h =
    at (split_among (extensions_by (declared_message scope n))
    (extensions_by (flat_map (declared_message scope) ns)) d
    (subst (λ (ds : List (Declared FieldDescriptor)). Among ds d)
    (flat_map-append (λ (x : Declaration). extensions_within x.name x.parts.extension)
    (declared_message scope n) (flat_map (declared_message scope) ns)) h)) (λ k.
    held_by scope ns d k)
  where
    at : SplitAmong (extensions_by (declared_message scope n))
        (extensions_by (flat_map (declared_message scope) ns)) d
        → (Among (extensions_by (flat_map (declared_message scope) ns)) d → Holder scope ns d)
        → Holder scope (n ∷ ns) d
    at (left k) others = (n, here, k)
    at (right k) others = let o = others k in (o.0, there o.1, o.2)

pub nested_are : (scope : Text) (ns : List MessageDescriptor)
    → declared_messages scope (messages_of_list ns) ≡ flat_map (declared_message scope) ns
nested_are scope [] = refl
nested_are scope (n ∷ ns) =
    ap (λ (ds : List Declaration). declared_message scope n ++ ds) (nested_are scope ns)

out_of_message : (env : Environment) (name : Text) (body : List MessageStatementSyntax)
    (ns : List MessageDescriptor) (d : Declared FieldDescriptor)
    → Among (extensions_by
    (declared_message (absolute_text env.scope) (message_from env name body ns))) d
    → StandsIn (absolute_text (names.inside env.scope name))
    (flat_map (bodies.extended_of (env_inside env name)) body) ns d
out_of_message env name body ns d h =
    subst (λ (s : Text). StandsIn s (flat_map (bodies.extended_of (env_inside env name)) body) ns d)
    (sym (scope_inside env.scope name))
    (at (split_among
    (extensions_within (name_within (absolute_text env.scope) name)
    (flat_map (bodies.extended_of (env_inside env name)) body)) (extensions_by
    (declared_messages (name_within (absolute_text env.scope) name) (messages_of_list ns))) d h))
  where
    at : SplitAmong
        (extensions_within (name_within (absolute_text env.scope) name)
        (flat_map (bodies.extended_of (env_inside env name)) body)) (extensions_by
        (declared_messages (name_within (absolute_text env.scope) name) (messages_of_list ns))) d
        → StandsIn (name_within (absolute_text env.scope) name)
        (flat_map (bodies.extended_of (env_inside env name)) body) ns d
    at (left k) = its_own k
    at (right k) =
        let o = held_by (name_within (absolute_text env.scope) name) ns d
        (subst (λ (ds : List Declaration). Among (extensions_by ds) d)
        (nested_are (name_within (absolute_text env.scope) name) ns) k) in
        in_one o.0 o.1 o.2

joined : (env : Environment) (xs ys : List DeclaredExtension) (d : Declared FieldDescriptor)
    (A B : Type 0) → OneOf A B → (A → Comes env xs d) → (B → Comes env ys d)
    → Comes env (xs ++ ys) d
joined env xs ys d A B (first k) f g = comes_left env xs ys d (f k)
joined env xs ys d A B (second k) f g = comes_right env xs ys d (g k)

abbrev Stands : Environment → List FieldDescriptor → List MessageDescriptor
    → Declared FieldDescriptor → Type 0
Stands env own nested d = StandsIn (absolute_text env.scope) own nested d

mutual
  from_statement : (env : Environment) (s : MessageStatementSyntax) (d : Declared FieldDescriptor)
      → Stands env (bodies.extended_of env s) (nested_of env s) d
      → Comes env (names.extensions_of env.scope s) d
  from_statement env (message_extend x) d (its_own h) = from_extend env x.extendee x.fields d h
  from_statement env (message_extend x) d (in_one m a h) =
      absurd (none_behind_all env (flat_map groups x.fields) (absolute_text env.scope) m d a h)
  from_statement env (message_message place name body) d (its_own h) = elim h [ ]
  from_statement env (message_message place name body) d (in_one _ here h) =
      let c = from_list (env_inside env name) body d
      (out_of_message env name (message_body body) (nested_in (env_inside env name) body) d h) in
      record { extension = c.extension; among = c.among; is = c.is }
  from_statement env (message_message place name body) d (in_one m (there a) h) = elim a [ ]
  from_statement env (message_field f) d (its_own h) = elim h [ ]
  from_statement env (message_field f) d (in_one m a h) =
      absurd (none_behind env f (absolute_text env.scope) m d a h)
  from_statement env (message_oneof o) d (its_own h) = elim h [ ]
  from_statement env (message_oneof o) d (in_one m a h) =
      absurd (none_behind_all env (flat_map oneof_fields o.body) (absolute_text env.scope) m d a h)
  from_statement env _ d (its_own h) = elim h [ ]
  from_statement env _ d (in_one m a h) = elim a [ ]

  from_list : (env : Environment) (ss : MessageStatementList) (d : Declared FieldDescriptor)
      → Stands env (flat_map (bodies.extended_of env) (message_body ss)) (nested_in env ss) d
      → Comes env (names.extensions_in env.scope ss) d
  from_list env no_statements d (its_own h) = elim h [ ]
  from_list env no_statements d (in_one m a h) = elim a [ ]
  from_list env (more_statements s ss) d p =
      joined env (names.extensions_of env.scope s) (names.extensions_in env.scope ss) d _ _
      (split_placed (absolute_text env.scope) (bodies.extended_of env s)
      (flat_map (bodies.extended_of env) (message_body ss)) (nested_of env s)
      (nested_in env ss) d p)
      (λ k. from_statement env s d k) (λ k. from_list env ss d k)
