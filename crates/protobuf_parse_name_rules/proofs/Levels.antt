-- One level of what nests.
use Rattle.std.proofs.Common.{◌≡◌, ◌∙◌, List, [], ◌∷◌, ◌++◌, map, flat_map, refl, sym, ap}
use Rattle.std.proofs.Common.{append_assoc}
use Rattle.std.specs.Prelude.{option_to_list}
use Rattle.protobuf_parse_base.specs.DeclaredNames.{name_bytes}
use Rattle.protobuf_parse_lexer.specs.declared.lexer.token.Place.{Place}
use Rattle.protobuf_parse_syntax.specs.Trees.{ConstantFieldSyntax, ConstantSyntax}
use Rattle.protobuf_parse_syntax.specs.Trees.{FieldStatementSyntax, MessageStatementSyntax}
use Rattle.protobuf_parse_syntax.specs.Trees.{MessageSyntax, constant_fields, constants, fields}
use Rattle.protobuf_parse_syntax.specs.Trees.{field_statement_syntax, field_statements}
use Rattle.protobuf_parse_syntax.specs.Trees.{message_statements}
use Rattle.protobuf_parse_syntax.specs.Trees.{message_syntax, nested_message}
use Rattle.protobuf_parse_syntax.specs.InnerViews.{message_statement_syntax}
use Rattle.protobuf_parse_syntax.specs.declared.tree.declaration.Message.{Message}
use Rattle.protobuf_parse_syntax.specs.declared.tree.field.FieldStatement.{FieldStatement}
use Rattle.protobuf_parse_syntax.specs.declared.tree.field.FieldStatement.TheVariants as statement
use Rattle.protobuf_parse_syntax.specs.declared.tree.field.Group.{Group}
use Rattle.protobuf_parse_syntax.proofs.FieldViews.{views_group}
use Rattle.protobuf_parse_syntax.proofs.Messages.{view_parts}
use Rattle.protobuf_parse_model.specs.Declarations.{Scope, inside}
use Rattle.protobuf_parse_model.specs.Descriptors.{FieldDescriptor, MessageDescriptor, Text}
use Rattle.protobuf_parse_model.specs.declared.customs.Construct.TheVariants as of
use Rattle.protobuf_parse_index.specs.Lookups.{message_named}
use Rattle.protobuf_parse_index.specs.Walk.{Standing}
use Rattle.protobuf_parse_option_paths.specs.Names.{type_name_of}
use Rattle.protobuf_parse_text_rules.specs.Breaches.{TextBreach}
use Rattle.protobuf_parse_text_rules.specs.Files.{option_in_message, options_among}
use Rattle.protobuf_parse_name_rules.specs.Constants.{Given, given_in, item_breaches}
use Rattle.protobuf_parse_name_rules.specs.Constants as spec
use Rattle.protobuf_parse_name_rules.specs.Constants.{own_breaches, value_breaches}
use Rattle.protobuf_parse_name_rules.specs.Files.{all_breaches, all_inside, inside_message}
use Rattle.protobuf_parse_name_rules.specs.Files.{statement_breaches}
use Rattle.protobuf_parse_name_rules.specs.InnerViews.{given_of, member_breaches, message_breaches}
use Rattle.protobuf_parse_name_rules.specs.InnerViews.{paths_by}
use Rattle.protobuf_parse_name_rules.specs.Lookups.{Viewpoint, within}
use Rattle.protobuf_parse_name_rules.specs.Options.{Path, option_breaches, paths_among}

-- ---- constants

pub items_listed : (at : Viewpoint) (place : Place) (f : FieldDescriptor)
    (cs : List ConstantSyntax)
    → flat_map (value_breaches at place f) cs ≡ item_breaches at place f (constants cs)
items_listed at place f [] = refl
items_listed at place f (c ∷ cs) =
    ap (λ bs. value_breaches at place f c ++ bs) (items_listed at place f cs)

members_listed : (at : Viewpoint) (place : Place) (message : Text) (fs : List ConstantFieldSyntax)
    → flat_map (member_breaches at place message) fs
    ≡ spec.member_breaches at place message (constant_fields fs)
members_listed at place message [] = refl
members_listed at place message (f ∷ fs) =
    ap (λ bs. member_breaches at place message f ++ bs) (members_listed at place message fs)

given_listed : (at : Viewpoint) (message : Text) (fs : List ConstantFieldSyntax)
    → flat_map (given_of at message) fs ≡ given_in at message (constant_fields fs)
given_listed at message [] = refl
given_listed at message (f ∷ fs) =
    ap (λ gs. given_of at message f ++ gs) (given_listed at message fs)

-- a message constant
pub message_listed : (at : Viewpoint) (place : Place) (f : FieldDescriptor)
    (fs : List ConstantFieldSyntax)
    → message_breaches at place (type_name_of f) fs
    ≡ value_breaches at place f (fields (constant_fields fs))
message_listed at place f fs =
    let all = option_to_list (message_named at.sight.reached (type_name_of f)) in
    ap (λ (gs : List Given). flat_map
    (λ (m : Standing MessageDescriptor). own_breaches place m.what gs
    ++ flat_map (member_breaches at place (type_name_of f)) fs) all)
    (given_listed at (type_name_of f) fs)
    ∙ ap (λ (bs : List TextBreach). flat_map
    (λ (m : Standing MessageDescriptor).
    own_breaches place m.what (given_in at (type_name_of f) (constant_fields fs)) ++ bs) all)
    (members_listed at place (type_name_of f) fs)

-- the paths that it sets
pub paths_listed : (at : Viewpoint) (path : Path) (message : Text) (fs : List ConstantFieldSyntax)
    → flat_map (paths_by at path message) fs ≡ paths_among at path message (constant_fields fs)
paths_listed at path message [] = refl
paths_listed at path message (f ∷ fs) =
    ap (λ ps. paths_by at path message f ++ ps) (paths_listed at path message fs)

-- ---- groups

pub all_listed : (at : Viewpoint) (fs : List FieldStatementSyntax)
    → all_breaches at (field_statements fs) ≡ flat_map (statement_breaches at) fs
all_listed at [] = refl
all_listed at (f ∷ fs) = ap (λ bs. statement_breaches at f ++ bs) (all_listed at fs)

-- ---- messages

options_listed : (ss : List MessageStatementSyntax)
    → options_among (message_statements ss) ≡ flat_map option_in_message ss
options_listed [] = refl
options_listed (s ∷ ss) = ap (λ os. option_in_message s ++ os) (options_listed ss)

inside_listed : (at : Viewpoint) (ss : List MessageStatementSyntax)
    → all_inside at (message_statements ss) ≡ flat_map (inside_message at) ss
inside_listed at [] = refl
inside_listed at (s ∷ ss) = ap (λ bs. inside_message at s ++ bs) (inside_listed at ss)

-- a message: what is wrong with its options, and inside of it
pub message_parts : (at : Viewpoint) (m : Message)
    → inside_message at (nested_message (message_syntax m))
    ≡ option_breaches at of.Message
    (flat_map option_in_message (map message_statement_syntax m.body.items))
    ++ flat_map (inside_message (within at (name_bytes m.name)))
    (map message_statement_syntax m.body.items)
message_parts at m =
    let s : MessageSyntax = message_syntax m in
    ap (λ os. option_breaches at of.Message os
    ++ all_inside (within at s.name) (message_statements s.body)) (options_listed s.body)
    ∙ ap (λ bs. option_breaches at of.Message (flat_map option_in_message s.body) ++ bs)
    (inside_listed (within at s.name) s.body)
    ∙ ap (λ (x : MessageSyntax). option_breaches at of.Message (flat_map option_in_message x.body)
    ++ flat_map (inside_message (within at x.name)) x.body) (view_parts m)

-- ---- scopes

-- from inside what has the name
pub within_same : (at : Viewpoint) (name : Text) (scope : Scope) → scope ≡ inside at.scope name
    → record { sight = at.sight; scope = scope } ≡ within at name
within_same at name scope e = ap (λ (s : Scope). record { sight = at.sight; scope = s }) e

-- what is told of a message
pub message_told : (at inner : Viewpoint) (m : Message) (t0 t1 t2 : List TextBreach)
    → t1 ≡ t0 ++ option_breaches at of.Message
    (flat_map option_in_message (map message_statement_syntax m.body.items))
    → inner ≡ within at (name_bytes m.name)
    → t2 ≡ t1 ++ flat_map (inside_message inner) (map message_statement_syntax m.body.items)
    → t2 ≡ t0 ++ inside_message at (nested_message (message_syntax m))
message_told at inner m t0 t1 t2 first is next =
    let ss = map message_statement_syntax m.body.items in
    let own = option_breaches at of.Message (flat_map option_in_message ss) in
    next ∙ ap (λ t. t ++ flat_map (inside_message inner) ss) first
    ∙ append_assoc t0 own (flat_map (inside_message inner) ss)
    ∙ ap (λ (v : Viewpoint). t0 ++ (own ++ flat_map (inside_message v) ss)) is
    ∙ ap (λ z. t0 ++ z) (sym (message_parts at m))

-- what is told of a group
pub group_told : (at inner : Viewpoint) (s : FieldStatement) (g : Group) (t0 t2 : List TextBreach)
    → s ≡ statement.Group g → inner ≡ within at (name_bytes g.name)
    → t2 ≡ t0 ++ flat_map (statement_breaches inner) (map field_statement_syntax g.fields.items)
    → t2 ≡ t0 ++ statement_breaches at (field_statement_syntax s)
group_told at inner s g t0 t2 e is next =
    let fs = map field_statement_syntax g.fields.items in
    next
    ∙ ap (λ (v : Viewpoint). t0 ++ flat_map (statement_breaches v) fs) is
    ∙ ap (λ z. t0 ++ z)
    (sym (all_listed (within at (name_bytes g.name)) fs)
    ∙ sym (ap (statement_breaches at) (ap field_statement_syntax e ∙ views_group g)))
