-- Messages, with those inside them.
use Rattle.std.proofs.Common.{◌≡◌, ℕ, List, [], ◌∷◌, ◌++◌, flat_map}
use Rattle.std.proofs.Common.{None, refl, ap, sym, subst}
use Rattle.std.specs.List.{AllByRecursion}
use Rattle.protobuf_parse_syntax.specs.Trees.{MessageStatementList, MessageStatementSyntax}
use Rattle.protobuf_parse_syntax.specs.Trees.{message_enum, message_extend}
use Rattle.protobuf_parse_syntax.specs.Trees.{message_field, message_message}
use Rattle.protobuf_parse_syntax.specs.Trees.{message_oneof}
use Rattle.protobuf_parse_syntax.specs.Trees.{more_statements, no_statements}
use Rattle.protobuf_parse_source_info.specs.Declarations.{counted, enum_walk, extensions_in}
use Rattle.protobuf_parse_source_info.specs.Declarations.{extensions_of, message_list}
use Rattle.protobuf_parse_source_info.specs.Declarations.{message_statement, no_parts, oneof_body}
use Rattle.protobuf_parse_source_info.specs.Declarations.{oneof_walk}
use Rattle.protobuf_parse_source_info.specs.Declarations as walks
use Rattle.protobuf_parse_source_info.specs.Fields.{of_message}
use Rattle.protobuf_parse_source_info.specs.Parts.{head, next, nth}
use Rattle.protobuf_parse_source_info.specs.Walks.{Path, Walk, declared, one as token, ◌>>◌}
use Rattle.protobuf_parse_source_info.specs.declared.counts.MessageCounts.{MessageCounts}
use Rattle.protobuf_parse_model.specs.Descriptors.{MessageDescriptor, MessageParts, Text, a_message}
use Rattle.protobuf_parse_model.specs.Descriptors.{MessageDescriptors, messages_of_list, parts_seen}
use Rattle.protobuf_parse_model.specs.Environment.{Environment, env_inside}
use Rattle.protobuf_parse_model.specs.Statements.{message_body}
use Rattle.protobuf_parse_elaboration.specs.Messages.{at_oneof, enums_of, extended_of, fields_from}
use Rattle.protobuf_parse_elaboration.specs.Messages.{fields_of, message_from}
use Rattle.protobuf_parse_elaboration.specs.Messages.{nested_in, nested_of, oneofs_of}
use Rattle.protobuf_parse_wire.specs.Declarations.{name_within}
use Rattle.protobuf_parse_locations.specs.Declarations.{behind_messages, enum_at, field_at, items}
use Rattle.protobuf_parse_locations.specs.Declarations.{named, oneof_at, written}
use Rattle.protobuf_parse_locations.specs.declared.declaration.DeclarationKind.TheVariants as kind
use Rattle.protobuf_parse_location_laws.specs.Standing.{InBody, InStatement}
use Rattle.protobuf_parse_location_laws.specs.Written.{says_entry, written_message}
use Rattle.protobuf_parse_location_laws.specs.Written.{written_messages}
use Rattle.protobuf_parse_location_laws.proofs.Enums.{block_told, enum_told}
use Rattle.protobuf_parse_location_laws.proofs.Fields.{behind_listed, extension_messages_listed}
use Rattle.protobuf_parse_location_laws.proofs.Fields.{extensions_listed, field_listed}
use Rattle.protobuf_parse_location_laws.proofs.Fields.{oneof_fields_listed, oneof_messages_listed}
use Rattle.protobuf_parse_location_laws.proofs.Listing.{Lists, ListsUpTo, behind_statement}
use Rattle.protobuf_parse_location_laws.proofs.Listing.{items_told, no_items, one_item}
use Rattle.protobuf_parse_location_laws.proofs.Listing.{up_to_itself, up_to_within}
use Rattle.protobuf_parse_location_laws.proofs.Oneofs.{written_of, written_oneofs}
use Rattle.protobuf_parse_location_laws.proofs.Standing.{MayStand}
use Rattle.protobuf_parse_location_laws.proofs.Walking.{Tells, TellsAll, all_unless, all_within}
use Rattle.protobuf_parse_location_laws.proofs.Walking.{body_within, both, none_told, one_more}

-- ---- the parts of one statement

fields_listed : (env : Environment) (scope : Text) (p : Path) (c : MessageCounts) (index : ℕ)
    (s : MessageStatementSyntax)
    → ListsUpTo (field_at kind.Field scope) p 2 c.fields (counted c s).fields
    (fields_of env index s) (message_statement p c s)
unfolding message_statement oneof_walk
fields_listed env scope p c index (message_field f) =
    field_listed kind.Field scope (of_message p) None (walks.fields_of c) env _ f
fields_listed env scope p c index (message_oneof o) =
    up_to_within (body_within _ _ _ _)
    (oneof_fields_listed env scope (nth p 8 c.oneofs) (of_message p) (walks.fields_of c)
    (at_oneof index) o.body)
fields_listed env scope p c index _ = up_to_itself (field_at kind.Field scope) p 2 c.fields _

enums_listed : (env : Environment) (scope : Text) (p : Path) (c : MessageCounts)
    (s : MessageStatementSyntax)
    → ListsUpTo (enum_at scope) p 4 c.enums (counted c s).enums (enums_of env s)
    (message_statement p c s)
unfolding message_statement
enums_listed env scope p c (message_enum e) =
    one_item (enum_at scope) p 4 c.enums _ _ (enum_told env scope (nth p 4 c.enums) e)
enums_listed env scope p c _ = up_to_itself (enum_at scope) p 4 c.enums _

extended_listed : (env : Environment) (scope : Text) (p : Path) (c : MessageCounts)
    (s : MessageStatementSyntax)
    → ListsUpTo (field_at kind.Extension scope) p 6 c.extensions (counted c s).extensions
    (extended_of env s) (message_statement p c s)
unfolding message_statement
extended_listed env scope p c (message_extend e) =
    extensions_listed env scope (extensions_in p) (extensions_of c) e
extended_listed env scope p c _ = up_to_itself (field_at kind.Extension scope) p 6 c.extensions _

oneofs_listed : (env : Environment) (scope : Text) (p : Path) (c : MessageCounts)
    (s : MessageStatementSyntax)
    → ListsUpTo (oneof_at scope) p 8 c.oneofs (counted c s).oneofs (written_of env s)
    (message_statement p c s)
unfolding message_statement oneof_walk
oneofs_listed env scope p c (message_oneof o) =
    one_item (oneof_at scope) p 8 c.oneofs _ _
    (one_more (block_told (nth p 8 c.oneofs) _) (none_told _))
oneofs_listed env scope p c _ = up_to_itself (oneof_at scope) p 8 c.oneofs _

-- ---- those of all statements of a body

all_fields : (env : Environment) (scope : Text) (p : Path) (c : MessageCounts) (index : ℕ)
    (ss : MessageStatementList)
    → Lists (field_at kind.Field scope) p 2 c.fields (fields_from env index (message_body ss))
    (message_list p c ss)
unfolding message_list
all_fields env scope p c index no_statements = no_items (field_at kind.Field scope) p 2 c.fields _
all_fields env scope p c index (more_statements s ss) =
    behind_statement _ _ (fields_listed env scope p c index s)
    (all_fields env scope p (counted c s) _ ss)

all_enums : (env : Environment) (scope : Text) (p : Path) (c : MessageCounts)
    (ss : MessageStatementList)
    → Lists (enum_at scope) p 4 c.enums (flat_map (enums_of env) (message_body ss))
    (message_list p c ss)
unfolding message_list
all_enums env scope p c no_statements = no_items (enum_at scope) p 4 c.enums _
all_enums env scope p c (more_statements s ss) =
    behind_statement _ _ (enums_listed env scope p c s) (all_enums env scope p (counted c s) ss)

all_extended : (env : Environment) (scope : Text) (p : Path) (c : MessageCounts)
    (ss : MessageStatementList)
    → Lists (field_at kind.Extension scope) p 6 c.extensions
    (flat_map (extended_of env) (message_body ss)) (message_list p c ss)
unfolding message_list
all_extended env scope p c no_statements =
    no_items (field_at kind.Extension scope) p 6 c.extensions _
all_extended env scope p c (more_statements s ss) =
    behind_statement _ _ (extended_listed env scope p c s)
    (all_extended env scope p (counted c s) ss)

all_oneofs : (env : Environment) (scope : Text) (p : Path) (c : MessageCounts)
    (ss : MessageStatementList)
    → Lists (oneof_at scope) p 8 c.oneofs (flat_map (written_of env) (message_body ss))
    (message_list p c ss)
unfolding message_list
all_oneofs env scope p c no_statements = no_items (oneof_at scope) p 8 c.oneofs _
all_oneofs env scope p c (more_statements s ss) =
    behind_statement _ _ (oneofs_listed env scope p c s) (all_oneofs env scope p (counted c s) ss)

-- ---- a message

messages_as_items : (scope : Text) (p : Path) (i : ℕ) (ms : List MessageDescriptor)
    → items (written_message scope) p 3 i ms ≡ written_messages scope p i (messages_of_list ms)
messages_as_items scope p i [] = refl
messages_as_items scope p i (m ∷ ms) =
    ap (λ z. written_message scope (nth p 3 i) m ++ z) (messages_as_items scope p (next i) ms)

messages_told : {scope : Text} {p : Path} {i : ℕ} {ms : List MessageDescriptor} {w : Walk}
    → Lists (written_message scope) p 3 i ms w
    → TellsAll (written_messages scope p i (messages_of_list ms)) w
messages_told {scope} {p} {i} {ms} {w} l =
    subst (λ z. TellsAll z w) (messages_as_items scope p i ms) (items_told l)

statements_may : (ss : MessageStatementList) → InBody MayStand ss
    → AllByRecursion (InStatement MayStand) (message_body ss)
statements_may no_statements may = tt
statements_may (more_statements s ss) may = (may.0, statements_may ss may.1)

oneofs_told : (env : Environment) (scope : Text) (p : Path) (ss : MessageStatementList)
    → InBody MayStand ss
    → TellsAll (items (oneof_at scope) p 8 0 (written (fields_from env 0 (message_body ss)) 0
    (flat_map (oneofs_of env) (message_body ss)))) (message_list p no_parts ss)
oneofs_told env scope p ss may =
    subst (λ z. TellsAll (items (oneof_at scope) p 8 0 z) (message_list p no_parts ss))
    (sym (written_oneofs env (message_body ss) (statements_may ss may)))
    (items_told (all_oneofs env scope p no_parts ss))

-- a message by its parts, whether it is that of a map's entries or not
parts_told : (scope : Text) (p : Path) (m : MessageParts) (nested : MessageDescriptors) (w : Walk)
    → Tells p w → TellsAll (items (field_at kind.Field (name_within scope m.name)) p 2 0 m.field) w
    → TellsAll (written_messages (name_within scope m.name) p 0 nested) w
    → TellsAll (behind_messages (name_within scope m.name) p m) w
    → TellsAll (written_message scope p (a_message m nested)) w
parts_told scope p m nested w itself fields messages behind =
    all_unless (says_entry m.options) (named kind.Message scope m.name p
    ∷ (items (field_at kind.Field (name_within scope m.name)) p 2 0 m.field
    ++ written_messages (name_within scope m.name) p 0 nested
    ++ behind_messages (name_within scope m.name) p m)) w
    (one_more itself (both (both fields messages) behind))

pub message_told : (env : Environment) (scope : Text) (p : Path) (name : Text)
    (ss : MessageStatementList) → InBody MayStand ss
    → Lists (written_message (name_within scope name)) p 3 0 (nested_in (env_inside env name) ss)
    (message_list p no_parts ss)
    → TellsAll (written_message scope p (message_from env name (message_body ss)
    (nested_in (env_inside env name) ss)))
    (declared p (head p) (message_list p no_parts ss >> token))
message_told env scope p name ss may nested =
    let inner = env_inside env name in
    let around = name_within scope name in
    let inside = body_within p (head p) (message_list p no_parts ss) token in
    let within = nested_in inner ss in
    parts_told scope p (parts_seen (message_from env name (message_body ss) within))
    (messages_of_list within) _ (block_told p _)
    (all_within inside (items_told (all_fields inner around p no_parts 0 ss)))
    (all_within inside (messages_told nested))
    (all_within inside (both (both (items_told (all_enums inner around p no_parts ss))
    (items_told (all_extended inner around p no_parts ss)))
    (oneofs_told inner around p ss may)))

mutual
  unfolding message_statement message_list oneof_walk

  -- the messages of a statement
  pub nested_listed : (env : Environment) (scope : Text) (p : Path) (c : MessageCounts)
      (s : MessageStatementSyntax) → InStatement MayStand s
      → ListsUpTo (written_message scope) p 3 c.messages (counted c s).messages (nested_of env s)
      (message_statement p c s)
  nested_listed env scope p c (message_message place name body) may =
      one_item (written_message scope) p 3 c.messages _ _
      (message_told env scope (nth p 3 c.messages) name body may
      (all_nested (env_inside env name) (name_within scope name) (nth p 3 c.messages) no_parts body
      may))
  nested_listed env scope p c (message_field f) may =
      behind_listed env scope (of_message p) None (walks.fields_of c) f
  nested_listed env scope p c (message_oneof o) may =
      up_to_within (body_within _ _ _ _)
      (oneof_messages_listed env scope (nth p 8 c.oneofs) (of_message p) (walks.fields_of c) o.body)
  nested_listed env scope p c (message_extend e) may =
      extension_messages_listed env scope (extensions_in p) (extensions_of c) e may.2
  nested_listed env scope p c _ may = up_to_itself (written_message scope) p 3 c.messages _

  -- those of all statements of a body
  pub all_nested : (env : Environment) (scope : Text) (p : Path) (c : MessageCounts)
      (ss : MessageStatementList) → InBody MayStand ss
      → Lists (written_message scope) p 3 c.messages (nested_in env ss) (message_list p c ss)
  all_nested env scope p c no_statements may = no_items (written_message scope) p 3 c.messages _
  all_nested env scope p c (more_statements s ss) may =
      behind_statement _ _ (nested_listed env scope p c s may.0)
      (all_nested env scope p (counted c s) ss may.1)
