-- Fields and groups, as walks.
use Rattle.std.specs.Prelude.{ℕ, List, Option, Some, None, true}
use Rattle.protobuf_parse_syntax.specs.Trees.{TypeSyntax, scalar, map_of, named}
use Rattle.protobuf_parse_syntax.specs.Trees.{FieldSyntax, FieldStatementSyntax, field, group}
use Rattle.protobuf_parse_syntax.specs.Trees.{FieldStatementList, no_field_statements}
use Rattle.protobuf_parse_syntax.specs.Trees.{more_field_statements, field_statements}
use Rattle.protobuf_parse_syntax.specs.declared.tree.field.Label.{Label}
use Rattle.protobuf_parse_source_info.specs.Walks.{Path, Walk, nothing, ◌>>◌, seeing}
use Rattle.protobuf_parse_source_info.specs.Walks.{one as token, part, Mark, mark, declared}
use Rattle.protobuf_parse_source_info.specs.Walks.{declared_from, Range, again, noting, empties}
use Rattle.protobuf_parse_source_info.specs.Parts.{at, nth, next, options, type_walk}
use Rattle.protobuf_parse_source_info.specs.declared.counts.FieldCounts.{FieldCounts}

-- the extendee's name, which stands before all extensions of an `extend`
unfoldable pub extendee : Path → Option Range → Walk
extendee p None = nothing
extendee p (Some r) = again (at p 2) r  -- extendee

-- the word of a label
unfoldable pub label : Path → Option Label → Walk
label p None = nothing
label p (Some l) = part (at p 4) token  -- label

-- name "=" int
unfoldable pub named_number : Path → Walk
named_number p =
    part (at p 1) token  -- name
    >> token  -- `=`
    >> part (at p 3) token  -- number

-- [ label ] type ident "=" int [ options ] ";"
unfoldable pub field_parts : Path → Option Range → FieldSyntax → Walk
field_parts p x f =
    extendee p x
    >> label p f.label
    >> type_walk p f.type_
    >> named_number p
    >> options p true f.options
    >> token  -- `;`

-- a field, or an extension of that extendee
unfoldable pub field_walk : Path → Option Range → FieldSyntax → Walk
field_walk p x f = declared p (field_parts p x f) nothing

-- Where the fields of a body and the messages of its groups go: a path, the number of the list of
-- fields at it, and that of the list of messages.
pub record Owner : Type 0 where
  pub path : Path
  pub fields : ℕ
  pub messages : ℕ

-- those of a message: `field` and `nested_type`
abbrev pub of_message : Path → Owner
of_message p = record { path = p; fields = 2; messages = 3 }

-- A map has a message for its entries, a group one for its fields.
abbrev pub entries_past : ℕ → TypeSyntax → ℕ
entries_past i (scalar s) = i
entries_past i (named n) = i
entries_past i (map_of k v) = next i

-- how many messages stand behind a field, before which so many stand
abbrev pub messages_past : ℕ → FieldStatementSyntax → ℕ
messages_past i (field f) = entries_past i f.type_
messages_past i (group place label name number body) = next i

-- how many fields and messages stand behind a field
abbrev pub field_counted : FieldCounts → FieldStatementSyntax → FieldCounts
field_counted c f = record { fields = next c.fields; messages = messages_past c.messages f }

-- before the first field
abbrev pub no_fields : FieldCounts
no_fields = record { fields = 0; messages = 0 }

-- what stands before a group's name
unfoldable pub group_front : Path → Option Range → Option Label → Walk
group_front p x l =
    extendee p x
    >> label p l
    >> part (at p 5) token  -- type

-- The head of a group's message. The group's name is that of both, and of the field's type.
unfoldable pub group_head : (field message : Path) → Range → Walk
group_head p g n =
    again (at g 1) n  -- name
    >> again (at p 6) n  -- type_name
    >> token  -- `{`

-- What stands behind a group's number: its message, which begins where the field does and has the
-- field's comments.
unfoldable pub group_message : Mark → (field message : Path) → Range → Walk → Walk
group_message m p g n body = declared_from m g None (group_head p g n) (body >> token)

-- [ label ] "group" ident "=" int "{" { ";" | field } "}"
unfoldable pub group_walk : (field message : Path) → Option Range → Option Label → Walk → Walk
group_walk p g x l body = seeing (λ a.
    part p
    (group_front p x l
    >> noting (part (at p 1) token)  -- name
    (λ n.
    token  -- `=`
    >> part (at p 3) token  -- number
    >> group_message (mark a) p g n body)))

unfoldable mutual
  -- a field, before which so many of the owner's stand
  pub field_statement : Owner → Option Range → FieldCounts → FieldStatementSyntax → Walk
  field_statement o x c (field f) = field_walk (nth o.path o.fields c.fields) x f
  field_statement o x c (group place l name number body) =
      group_walk (nth o.path o.fields c.fields) (nth o.path o.messages c.messages) x l
      (field_list (of_message (nth o.path o.messages c.messages)) None no_fields body)

  -- the fields of a body, with empty statements between them
  pub field_list : Owner → Option Range → FieldCounts → FieldStatementList → Walk
  field_list o x c no_field_statements = empties
  field_list o x c (more_field_statements f fs) =
      empties >> field_statement o x c f >> field_list o x (field_counted c f) fs

-- the fields of a body, with empty statements between them
abbrev pub field_body : Owner → Option Range → FieldCounts → List FieldStatementSyntax → Walk
field_body o x c fs = field_list o x c (field_statements fs)
