-- The extensions that a tree declares stand in its descriptor.
use Rattle.std.proofs.Common.{◌≡◌, ℕ, ◌<◌, List, [], ◌∷◌, ◌++◌, map, flat_map, length, Option, Some}
use Rattle.std.proofs.Common.{None, unwrap_or, refl, ap, subst, ◌∙◌, append-nil, arith}
use Rattle.std.proofs.lemmas.List.{map-append}
use Rattle.std.proofs.lemmas.Grind.{flat_map-append}
use Rattle.protobuf_parse_base.specs.Names.{absolute_text, relative_idents}
use Rattle.protobuf_parse_base.proofs.NameTexts.{absolute_text-parts, absolute_text-append}
use Rattle.protobuf_parse_syntax.specs.Trees.{FieldStatementSyntax, field, group}
use Rattle.protobuf_parse_syntax.specs.Trees.{MessageStatementSyntax, message_extend}
use Rattle.protobuf_parse_syntax.specs.Trees.{message_message, MessageStatementList, no_statements}
use Rattle.protobuf_parse_syntax.specs.Trees.{more_statements}
use Rattle.protobuf_parse_model.specs.Statements.{field_statement_name, message_body}
use Rattle.protobuf_parse_model.specs.Descriptors.{Text, FieldDescriptor, MessageDescriptor}
use Rattle.protobuf_parse_model.specs.Descriptors.{messages_of_list}
use Rattle.protobuf_parse_model.specs.Faults.{Among, here, there}
use Rattle.protobuf_parse_model.specs.Declarations as names
use Rattle.protobuf_parse_model.specs.Declarations.{Scope, Declared, declare, DeclaredExtension}
use Rattle.protobuf_parse_model.specs.Environment.{Environment, env_inside}
use Rattle.protobuf_parse_elaboration.specs.Fields.{field_statement_of}
use Rattle.protobuf_parse_elaboration.specs.Messages as bodies
use Rattle.protobuf_parse_elaboration.specs.Messages.{extending, message_from, nested_of, nested_in}
use Rattle.protobuf_parse_wire.specs.Declarations.{Declaration, name_within, declared_message}
use Rattle.protobuf_parse_wire.specs.Declarations.{declared_messages, package_scope}
use Rattle.protobuf_parse_wire.specs.Declarations.{extensions_within}
use Rattle.protobuf_parse_options.specs.Agreement.{described}
use Rattle.protobuf_parse_options.proofs.Options.{among_left, among_right, SplitAmong, left, right}
use Rattle.protobuf_parse_options.proofs.Options.{split_among}

abbrev pub extensions_by : List Declaration → List (Declared FieldDescriptor)
extensions_by ds = flat_map (λ (d : Declaration). extensions_within d.name d.parts.extension) ds

-- in the scope itself, or in one of the messages there
pub data StandsIn (scope : Text) (own : List FieldDescriptor) (nested : List MessageDescriptor)
    (d : Declared FieldDescriptor) : Type 0 where
  its_own : Among (extensions_within scope own) d → StandsIn scope own nested d
  in_one : (m : MessageDescriptor) → Among nested m
      → Among (extensions_by (declared_message scope m)) d → StandsIn scope own nested d

pub within_append : (scope : Text) (xs ys : List FieldDescriptor)
    → extensions_within scope (xs ++ ys) ≡ extensions_within scope xs ++ extensions_within scope ys
within_append scope xs ys =
    map-append (λ (f : FieldDescriptor). record { name = name_within scope f.name; what = f }) xs ys

stands_left : (scope : Text) (xs ys : List FieldDescriptor) (ms ns : List MessageDescriptor)
    (d : Declared FieldDescriptor) → StandsIn scope xs ms d
    → StandsIn scope (xs ++ ys) (ms ++ ns) d
stands_left scope xs ys ms ns d (its_own h) =
    its_own (rw (within_append scope xs ys) (among_left (extensions_within scope ys) h))
stands_left scope xs ys ms ns d (in_one m a h) = in_one m (among_left ns a) h

stands_right : (scope : Text) (xs ys : List FieldDescriptor) (ms ns : List MessageDescriptor)
    (d : Declared FieldDescriptor) → StandsIn scope ys ns d
    → StandsIn scope (xs ++ ys) (ms ++ ns) d
stands_right scope xs ys ms ns d (its_own h) =
    its_own (rw (within_append scope xs ys) (among_right (extensions_within scope xs) h))
stands_right scope xs ys ms ns d (in_one m a h) = in_one m (among_right ms a) h

in_nested : (scope : Text) (ns : List MessageDescriptor) (m : MessageDescriptor)
    (d : Declared FieldDescriptor) → Among ns m → Among (extensions_by (declared_message scope m)) d
    → Among (extensions_by (declared_messages scope (messages_of_list ns))) d
in_nested scope [] m d a h = elim a [ ]
in_nested scope (n ∷ ns) _ d here h =
    rw (flat_map-append (λ (x : Declaration). extensions_within x.name x.parts.extension)
    (declared_message scope n) (declared_messages scope (messages_of_list ns))) (among_left
    (extensions_by (declared_messages scope (messages_of_list ns))) h)
in_nested scope (n ∷ ns) m d (there a) h =
    rw (flat_map-append (λ (x : Declaration). extensions_within x.name x.parts.extension)
    (declared_message scope n) (declared_messages scope (messages_of_list ns))) (among_right
    (extensions_by (declared_message scope n)) (in_nested scope ns m d a h))

pub scope_inside : (scope : Scope) (name : Text)
    → absolute_text (names.inside scope name) ≡ name_within (absolute_text scope) name
scope_inside scope name = absolute_text-append scope (name ∷ [])
    ∙ ap (λ (xs : List ℕ). absolute_text scope ++ (46 ∷ xs)) (append-nil name)

in_message : (env : Environment) (name : Text) (body : List MessageStatementSyntax)
    (ns : List MessageDescriptor) (d : Declared FieldDescriptor)
    → StandsIn (absolute_text (names.inside env.scope name))
    (flat_map (bodies.extended_of (env_inside env name)) body) ns d
    → Among (extensions_by
    (declared_message (absolute_text env.scope) (message_from env name body ns))) d
in_message env name body ns d p =
    at (subst (λ (s : Text). StandsIn s (flat_map (bodies.extended_of (env_inside env name)) body)
    ns d)
    (scope_inside env.scope name) p)
  where
    at : StandsIn (name_within (absolute_text env.scope) name)
        (flat_map (bodies.extended_of (env_inside env name)) body) ns d
        → Among (extensions_by
        (declared_message (absolute_text env.scope) (message_from env name body ns))) d
    at (its_own h) =
        among_left
        (extensions_by
        (declared_messages (name_within (absolute_text env.scope) name) (messages_of_list ns))) h
    at (in_one m a h) =
        among_right
        (extensions_within (name_within (absolute_text env.scope) name)
        (flat_map (bodies.extended_of (env_inside env name)) body)) (in_nested
        (name_within (absolute_text env.scope) name) ns m d a h)

in_extend : (env : Environment) (extendee : Text) (fs : List FieldStatementSyntax)
    (e : DeclaredExtension)
    → Among (map
    (λ (f : FieldStatementSyntax). declare env.scope (field_statement_name f)
    (record { extendee = extendee; scope = env.scope; field = f })) fs) e
    → Among (extensions_within (absolute_text env.scope)
    (map (field_statement_of env (extending env extendee)) fs)) (described env e)
in_extend env extendee [] e h = elim h [ ]
in_extend env extendee (field f ∷ fs) _ here = here
in_extend env extendee (group place label name number inner ∷ fs) _ here = here
in_extend env extendee (f ∷ fs) e (there h) = there (in_extend env extendee fs e h)

abbrev pub InBody : Environment → List FieldDescriptor → List MessageDescriptor → DeclaredExtension
    → Type 0
InBody env own nested e = StandsIn (absolute_text env.scope) own nested (described env e)

either : (env : Environment) (s : MessageStatementSyntax) (ss : MessageStatementList)
    (e : DeclaredExtension)
    → SplitAmong (names.extensions_of env.scope s) (names.extensions_in env.scope ss) e
    → (Among (names.extensions_of env.scope s) e
    → InBody env (bodies.extended_of env s) (nested_of env s) e)
    → (Among (names.extensions_in env.scope ss) e
    → InBody env (flat_map (bodies.extended_of env) (message_body ss)) (nested_in env ss) e)
    → InBody env (flat_map (bodies.extended_of env) (message_body (more_statements s ss)))
    (nested_in env (more_statements s ss)) e
either env s ss e (left k) first others =
    stands_left (absolute_text env.scope) (bodies.extended_of env s)
    (flat_map (bodies.extended_of env) (message_body ss)) (nested_of env s) (nested_in env ss)
    (described env e) (first k)
either env s ss e (right k) first others =
    stands_right (absolute_text env.scope) (bodies.extended_of env s)
    (flat_map (bodies.extended_of env) (message_body ss)) (nested_of env s) (nested_in env ss)
    (described env e) (others k)

mutual
  of_statement : (env : Environment) (s : MessageStatementSyntax) (e : DeclaredExtension)
      → Among (names.extensions_of env.scope s) e
      → InBody env (bodies.extended_of env s) (nested_of env s) e
  of_statement env (message_extend x) e h = its_own (in_extend env x.extendee x.fields e h)
  of_statement env (message_message place name body) e h =
      in_one (message_from env name (message_body body) (nested_in (env_inside env name) body)) here
      (in_message env name (message_body body) (nested_in (env_inside env name) body)
      (described env e)
      (of_list (env_inside env name) body e h))
  of_statement env _ e h = elim h [ ]

  of_list : (env : Environment) (ss : MessageStatementList) (e : DeclaredExtension)
      → Among (names.extensions_in env.scope ss) e
      → InBody env (flat_map (bodies.extended_of env) (message_body ss)) (nested_in env ss) e
  of_list env no_statements e h = elim h [ ]
  of_list env (more_statements s ss) e h =
      either env s ss e
      (split_among (names.extensions_of env.scope s) (names.extensions_in env.scope ss) e h)
      (λ k. of_statement env s e k) (λ k. of_list env ss e k)

pub package_is : (package_name : Option Text)
    → ((name : Text) → package_name ≡ Some name → 0 < length name)
    → absolute_text (relative_idents (unwrap_or package_name [])) ≡ package_scope package_name
package_is None some = refl
package_is (Some []) some = absurd (omega (arith, some [] refl))
package_is (Some (b ∷ bs)) some = absolute_text-parts (b ∷ bs)
