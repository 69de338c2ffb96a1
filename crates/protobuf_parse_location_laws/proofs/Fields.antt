-- Fields, groups with the messages behind them, and `extend`s.
use Rattle.std.proofs.Common.{◌≡◌, ℕ, false, List, [], ◌∷◌, map, flat_map, fold}
use Rattle.std.proofs.Common.{Option, Some, None}
use Rattle.std.specs.List.{AllByRecursion}
use Rattle.protobuf_parse_syntax.specs.Trees.{ExtendSyntax, FieldStatementList}
use Rattle.protobuf_parse_syntax.specs.Trees.{FieldStatementSyntax, FieldSyntax}
use Rattle.protobuf_parse_syntax.specs.Trees.{OneofStatementSyntax, TypeSyntax, field, group}
use Rattle.protobuf_parse_syntax.specs.Trees.{map_of, more_field_statements, named}
use Rattle.protobuf_parse_syntax.specs.Trees.{no_field_statements, oneof_field, oneof_option}
use Rattle.protobuf_parse_syntax.specs.Trees.{scalar}
use Rattle.protobuf_parse_syntax.specs.declared.tree.field.Label.{Label}
use Rattle.protobuf_parse_source_info.specs.Declarations.{extend_walk, extendee_ahead, oneof_body}
use Rattle.protobuf_parse_source_info.specs.Declarations.{oneof_counted, oneof_statement}
use Rattle.protobuf_parse_source_info.specs.Fields.{Owner, entries_past, field_body, field_counted}
use Rattle.protobuf_parse_source_info.specs.Fields.{field_list, field_parts, field_statement}
use Rattle.protobuf_parse_source_info.specs.Fields.{field_walk, group_head}
use Rattle.protobuf_parse_source_info.specs.Fields.{group_message as group_message_walk, group_walk}
use Rattle.protobuf_parse_source_info.specs.Fields.{named_number, no_fields, of_message}
use Rattle.protobuf_parse_source_info.specs.Parts.{at, next, nth}
use Rattle.protobuf_parse_source_info.specs.Walks.{Path, Range, Walk, nothing}
use Rattle.protobuf_parse_source_info.specs.Walks.{one as token, ◌>>◌}
use Rattle.protobuf_parse_source_info.specs.declared.counts.FieldCounts.{FieldCounts}
use Rattle.protobuf_parse_model.specs.Descriptors.{Text}
use Rattle.protobuf_parse_model.specs.Environment.{Environment}
use Rattle.protobuf_parse_model.specs.Statements.{group_body, groups, is_map, oneof_fields}
use Rattle.protobuf_parse_elaboration.specs.Fields.{FieldOwner, field_statement_of}
use Rattle.protobuf_parse_elaboration.specs.Messages.{entries_of, extend_fields, extending}
use Rattle.protobuf_parse_elaboration.specs.Messages.{group_message, messages_behind}
use Rattle.protobuf_parse_elaboration.specs.Fields as elaborated
use Rattle.protobuf_parse_wire.specs.Declarations.{name_within}
use Rattle.protobuf_parse_locations.specs.Declarations.{field_at}
use Rattle.protobuf_parse_locations.specs.declared.declaration.DeclarationKind.{DeclarationKind}
use Rattle.protobuf_parse_locations.specs.declared.declaration.DeclarationKind.TheVariants as kind
use Rattle.protobuf_parse_location_laws.specs.Standing.{IsNoMap}
use Rattle.protobuf_parse_location_laws.specs.Written.{written_message}
use Rattle.protobuf_parse_location_laws.proofs.Walking.{Finds, Tells, TellsAll, Within, all_within}
use Rattle.protobuf_parse_location_laws.proofs.Walking.{body_within, both, in_declared}
use Rattle.protobuf_parse_location_laws.proofs.Walking.{in_declared_from, in_first, in_noted}
use Rattle.protobuf_parse_location_laws.proofs.Walking.{in_noting, in_part, in_second, in_seeing}
use Rattle.protobuf_parse_location_laws.proofs.Walking.{none_told, of_again, of_declared}
use Rattle.protobuf_parse_location_laws.proofs.Walking.{of_declared_from, of_part, one_more}
use Rattle.protobuf_parse_location_laws.proofs.Listing.{Lists, ListsUpTo, behind_statement}
use Rattle.protobuf_parse_location_laws.proofs.Listing.{items_told, lists_seeing, lists_within}
use Rattle.protobuf_parse_location_laws.proofs.Listing.{no_items, one_item, up_to_itself}
use Rattle.protobuf_parse_location_laws.proofs.Listing.{up_to_statement}

-- ---- fields

plain_told : (p : Path) (x : Option Range) (f : FieldSyntax) → Tells p (field_walk p x f)
unfolding field_walk field_parts named_number
plain_told p x f = record {
  itself = of_declared p _ nothing;
  name = in_declared p _ nothing (in_first _ _ (in_first _ _ (in_first _ _ (in_second _ _
      (in_first _ _ (in_first _ _ (of_part (at p 1) token)))))));
}

module _ (p g : Path) (x : Option Range) (l : Option Label) (body : Walk) where
  group_told : Tells p (group_walk p g x l body)
  unfolding group_walk
  group_told = record {
    itself = in_seeing _ (λ a. of_part p _);
    name = in_seeing _ (λ a. in_part p _ (in_second _ _ (in_noted _ _ (of_part (at p 1) token))));
  }

  -- what a group's message finds, the group finds
  in_group : {q : Path}
      → ((r : Range) → Finds q (group_head p g r >> (body >> token)))
      → Finds q (group_walk p g x l body)
  unfolding group_walk group_message_walk
  in_group f = in_seeing _ (λ a. in_part p _ (in_second _ _ (in_noting _ _
      (λ r. in_second _ _ (in_declared_from _ _ _ _ _ (f r))))))

  behind_group_told : Tells g (group_walk p g x l body)
  unfolding group_walk group_message_walk group_head
  behind_group_told = record {
    itself = in_seeing _ (λ a. in_part p _ (in_second _ _ (in_noting _ _
        (λ r. in_second _ _ (of_declared_from _ g _ _ _)))));
    name = in_group (λ r. in_first _ _ (in_first _ _ (in_first _ _ (of_again (at g 1) r))));
  }

  group_body_within : Within body (group_walk p g x l body)
  group_body_within = record {
    finds = λ q f. in_group (λ r. in_second _ _ (in_first _ _ f));
  }

field_told : (o : Owner) (x : Option Range) (c : FieldCounts) (f : FieldStatementSyntax)
    → Tells (nth o.path o.fields c.fields) (field_statement o x c f)
unfolding field_statement
field_told o x c (field f) = plain_told (nth o.path o.fields c.fields) x f
field_told o x c (group place l name number body) =
    group_told (nth o.path o.fields c.fields) (nth o.path o.messages c.messages) x l _

pub field_listed : (k : DeclarationKind) (scope : Text) (o : Owner) (x : Option Range)
    (c : FieldCounts) (env : Environment) (own : FieldOwner) (f : FieldStatementSyntax)
    → ListsUpTo (field_at k scope) o.path o.fields c.fields (next c.fields)
    (field_statement_of env own f ∷ []) (field_statement o x c f)
field_listed k scope o x c env own f =
    one_item (field_at k scope) o.path o.fields c.fields (field_statement_of env own f)
    (field_statement o x c f) (one_more (field_told o x c f) (none_told _))

-- ---- the messages behind maps and groups

fields_in_group : (k : DeclarationKind) (scope : Text) (o : Owner) (x : Option Range)
    (c : FieldCounts) (env : Environment) (own : FieldOwner) (fs : FieldStatementList)
    → Lists (field_at k scope) o.path o.fields c.fields
    (map (field_statement_of env own) (group_body fs)) (field_list o x c fs)
unfolding field_list
fields_in_group k scope o x c env own no_field_statements =
    no_items (field_at k scope) o.path o.fields c.fields _
fields_in_group k scope o x c env own (more_field_statements f fs) =
    behind_statement _ _ (field_listed k scope o x c env own f)
    (fields_in_group k scope o x (field_counted c f) env own fs)

group_message_told : (env : Environment) (scope : Text) (p g : Path) (x : Option Range)
    (l : Option Label) (name : Text) (fs : FieldStatementList)
    → TellsAll (written_message scope g (group_message env name (group_body fs)))
    (group_walk p g x l (field_list (of_message g) None no_fields fs))
group_message_told env scope p g x l name fs =
    let body = field_list (of_message g) None no_fields fs in
    let inside = items_told (fields_in_group kind.Field (name_within scope name) (of_message g) None
    no_fields env elaborated.of_message fs) in
    one_more (behind_group_told p g x l body)
    (both (both (all_within (group_body_within p g x l body) inside) (none_told _)) (none_told _))

entries_listed : (env : Environment) (scope : Text) (p : Path) (n i : ℕ) (name : Text)
    (t : TypeSyntax) (w : Walk)
    → ListsUpTo (written_message scope) p n i (entries_past i t) (entries_of env name t) w
entries_listed env scope p n i name (scalar s) w = up_to_itself (written_message scope) p n i w
entries_listed env scope p n i name (named m) w = up_to_itself (written_message scope) p n i w
entries_listed env scope p n i name (map_of k v) w =
    one_item (written_message scope) p n i _ w (none_told w)

pub behind_listed : (env : Environment) (scope : Text) (o : Owner) (x : Option Range)
    (c : FieldCounts) (f : FieldStatementSyntax)
    → ListsUpTo (written_message scope) o.path o.messages c.messages (field_counted c f).messages
    (messages_behind env f) (field_statement o x c f)
unfolding field_statement
behind_listed env scope o x c (field f) =
    entries_listed env scope o.path o.messages c.messages f.name f.type_ _
behind_listed env scope o x c (group place l name number body) =
    one_item (written_message scope) o.path o.messages c.messages _ _
    (group_message_told env scope (nth o.path o.fields c.fields)
    (nth o.path o.messages c.messages) x l name body)

-- ---- the fields of a oneof

pub oneof_fields_listed : (env : Environment) (scope : Text) (p : Path) (o : Owner)
    (c : FieldCounts) (own : FieldOwner) (ss : List OneofStatementSyntax)
    → ListsUpTo (field_at kind.Field scope) o.path o.fields c.fields
    (fold oneof_counted c ss).fields
    (map (field_statement_of env own) (flat_map oneof_fields ss)) (oneof_body p o c ss)
unfolding oneof_body oneof_statement
oneof_fields_listed env scope p o c own [] =
    up_to_itself (field_at kind.Field scope) o.path o.fields c.fields _
oneof_fields_listed env scope p o c own (oneof_option s ∷ ss) =
    up_to_statement _ _ (up_to_itself (field_at kind.Field scope) o.path o.fields c.fields _)
    (oneof_fields_listed env scope p o c own ss)
oneof_fields_listed env scope p o c own (oneof_field f ∷ ss) =
    up_to_statement _ _ (field_listed kind.Field scope o None c env own f)
    (oneof_fields_listed env scope p o (field_counted c f) own ss)

pub oneof_messages_listed : (env : Environment) (scope : Text) (p : Path) (o : Owner)
    (c : FieldCounts) (ss : List OneofStatementSyntax)
    → ListsUpTo (written_message scope) o.path o.messages c.messages
    (fold oneof_counted c ss).messages
    (flat_map (messages_behind env) (flat_map oneof_fields ss)) (oneof_body p o c ss)
unfolding oneof_body oneof_statement
oneof_messages_listed env scope p o c [] =
    up_to_itself (written_message scope) o.path o.messages c.messages _
oneof_messages_listed env scope p o c (oneof_option s ∷ ss) =
    up_to_statement _ _ (up_to_itself (written_message scope) o.path o.messages c.messages _)
    (oneof_messages_listed env scope p o c ss)
oneof_messages_listed env scope p o c (oneof_field f ∷ ss) =
    up_to_statement _ _ (behind_listed env scope o None c f)
    (oneof_messages_listed env scope p o (field_counted c f) ss)

-- ---- extensions

extensions_in_body : (env : Environment) (scope : Text) (o : Owner) (x : Option Range)
    (c : FieldCounts) (own : FieldOwner) (fs : List FieldStatementSyntax)
    → ListsUpTo (field_at kind.Extension scope) o.path o.fields c.fields
    (fold field_counted c fs).fields (map (field_statement_of env own) fs) (field_body o x c fs)
unfolding field_list
extensions_in_body env scope o x c own [] =
    up_to_itself (field_at kind.Extension scope) o.path o.fields c.fields _
extensions_in_body env scope o x c own (f ∷ fs) =
    up_to_statement _ _ (field_listed kind.Extension scope o x c env own f)
    (extensions_in_body env scope o x (field_counted c f) own fs)

no_entries : (scope : Text) (p : Path) (n i : ℕ) (t : TypeSyntax) (w : Walk)
    → is_map t ≡ false → ListsUpTo (written_message scope) p n i (entries_past i t) [] w
no_entries scope p n i (scalar s) w e = up_to_itself (written_message scope) p n i w
no_entries scope p n i (named m) w e = up_to_itself (written_message scope) p n i w
no_entries scope p n i (map_of k v) w e = absurd (cc)

messages_in_body : (env : Environment) (scope : Text) (o : Owner) (x : Option Range)
    (c : FieldCounts) (fs : List FieldStatementSyntax) → AllByRecursion IsNoMap fs
    → ListsUpTo (written_message scope) o.path o.messages c.messages
    (fold field_counted c fs).messages (flat_map (messages_behind env) (flat_map groups fs))
    (field_body o x c fs)
unfolding field_list
messages_in_body env scope o x c [] none =
    up_to_itself (written_message scope) o.path o.messages c.messages _
messages_in_body env scope o x c (field f ∷ fs) none =
    up_to_statement _ _ (no_entries scope o.path o.messages c.messages f.type_ _ none.0)
    (messages_in_body env scope o x (field_counted c (field f)) fs none.1)
messages_in_body env scope o x c (group place l name number body ∷ fs) none =
    let g = group place l name number body in
    up_to_statement _ _ (behind_listed env scope o x c g)
    (messages_in_body env scope o x (field_counted c g) fs none.1)

pub extensions_listed : (env : Environment) (scope : Text) (o : Owner) (c : FieldCounts)
    (e : ExtendSyntax)
    → ListsUpTo (field_at kind.Extension scope) o.path o.fields c.fields
    (fold field_counted c e.fields).fields (extend_fields env e) (extend_walk o c e)
unfolding extend_walk
extensions_listed env scope o c e =
    let own = extending env e.extendee in
    record {
      counted = (extensions_in_body env scope o None c own e.fields).counted;
      lists = lists_seeing _ (λ a. lists_within (body_within _ _ _ _)
          (extensions_in_body env scope o (Some (extendee_ahead a)) c own e.fields).lists);
    }

pub extension_messages_listed : (env : Environment) (scope : Text) (o : Owner) (c : FieldCounts)
    (e : ExtendSyntax) → AllByRecursion IsNoMap e.fields
    → ListsUpTo (written_message scope) o.path o.messages c.messages
    (fold field_counted c e.fields).messages
    (flat_map (messages_behind env) (flat_map groups e.fields)) (extend_walk o c e)
unfolding extend_walk
extension_messages_listed env scope o c e none = record {
  counted = (messages_in_body env scope o None c e.fields none).counted;
  lists = lists_seeing _ (λ a. lists_within (body_within _ _ _ _)
      (messages_in_body env scope o (Some (extendee_ahead a)) c e.fields none).lists);
}
