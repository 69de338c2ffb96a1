-- Enums, oneofs, `extend` and messages, as walks.
use Rattle.std.specs.Prelude.{ℕ, false, List, [], ◌∷◌, Some, None, fold, codes}
use Rattle.protobuf_parse_syntax.specs.Trees.{ReservedSyntax}
use Rattle.protobuf_parse_syntax.specs.Trees.{reserved_ranges, reserved_names, ExtensionsSyntax}
use Rattle.protobuf_parse_syntax.specs.Trees.{OneofStatementSyntax, oneof_option, oneof_field}
use Rattle.protobuf_parse_syntax.specs.Trees.{OneofSyntax, ExtendSyntax, EnumValueSyntax}
use Rattle.protobuf_parse_syntax.specs.Trees.{EnumSyntax}
use Rattle.protobuf_parse_syntax.specs.Trees.{EnumStatementSyntax, enum_reserved, enum_option}
use Rattle.protobuf_parse_syntax.specs.Trees.{enum_value, MessageSyntax, MessageStatementSyntax}
use Rattle.protobuf_parse_syntax.specs.Trees.{message_reserved, message_oneof, message_extend}
use Rattle.protobuf_parse_syntax.specs.Trees.{message_message, message_enum, message_extensions}
use Rattle.protobuf_parse_syntax.specs.Trees.{message_option, message_field, MessageStatementList}
use Rattle.protobuf_parse_syntax.specs.Trees.{no_statements, more_statements, message_statements}
use Rattle.protobuf_parse_source_info.specs.Walks.{Path, Walk, Ahead, nothing, ◌>>◌, if_next}
use Rattle.protobuf_parse_source_info.specs.Walks.{one as token, part, declared, seeing, Range}
use Rattle.protobuf_parse_source_info.specs.Walks.{range_behind, empties}
use Rattle.protobuf_parse_source_info.specs.Parts.{at, nth, next, name, head, option_statement}
use Rattle.protobuf_parse_source_info.specs.Parts.{options, number, ranges, reserved}
use Rattle.protobuf_parse_source_info.specs.Fields.{Owner, of_message, field_statement, field_body}
use Rattle.protobuf_parse_source_info.specs.Fields.{field_counted}
use Rattle.protobuf_parse_source_info.specs.declared.counts.FieldCounts.{FieldCounts}
use Rattle.protobuf_parse_source_info.specs.declared.counts.EnumCounts.{EnumCounts}
use Rattle.protobuf_parse_source_info.specs.declared.counts.MessageCounts.{MessageCounts}

-- ---- lists of ranges and names

-- the index behind these items
abbrev pub past_items : {A : Type 0} → ℕ → List A → ℕ
past_items i [] = i
past_items i (x ∷ xs) = past_items (next i) xs

-- the index behind the ranges that a statement reserves
abbrev pub ranges_past : ℕ → ReservedSyntax → ℕ
ranges_past i (reserved_ranges rs) = past_items i rs
ranges_past i (reserved_names ss) = i

-- the index behind the names
abbrev pub names_past : ℕ → ReservedSyntax → ℕ
names_past i (reserved_ranges rs) = i
names_past i (reserved_names ss) = past_items i ss

-- ---- enums

-- ident "=" [ "-" ] int [ options ] [ ";" ]. The `;` is the value's, if one stands there.
unfoldable pub value_parts : Path → EnumValueSyntax → Walk
value_parts p v =
    part (at p 1) token  -- name
    >> token  -- `=`
    >> number (at p 2)  -- number
    >> options p false v.options  -- options
    >> if_next (codes ";") token nothing

-- a value of an enum
unfoldable pub value_walk : Path → EnumValueSyntax → Walk
value_walk p v = declared p (value_parts p v) nothing

-- a statement of an enum, before which so many values, ranges and names stand
unfoldable pub enum_statement : Path → EnumCounts → EnumStatementSyntax → Walk
enum_statement p c (enum_reserved r) =
    reserved p 4 5 c.ranges c.names r.reserved  -- reserved_range, reserved_name
enum_statement p c (enum_option o) = option_statement (at p 3) o  -- options
enum_statement p c (enum_value v) = value_walk (nth p 2 c.values) v  -- value

-- how many stand behind it
abbrev pub enum_counted : EnumCounts → EnumStatementSyntax → EnumCounts
enum_counted c (enum_reserved r) = record {
  values = c.values;
  ranges = ranges_past c.ranges r.reserved;
  names = names_past c.names r.reserved;
}
enum_counted c (enum_option o) = c
enum_counted c (enum_value v) =
    record { values = next c.values; ranges = c.ranges; names = c.names }

-- the statements before which so many stand, with empty ones between them
unfoldable pub enum_body : Path → EnumCounts → List EnumStatementSyntax → Walk
enum_body p c [] = empties
enum_body p c (s ∷ ss) = empties >> enum_statement p c s >> enum_body p (enum_counted c s) ss

-- before the first statement of an enum
abbrev pub no_values : EnumCounts
no_values = record { values = 0; ranges = 0; names = 0 }

-- "enum" ident "{" { ";" | reserved | option | value } "}"
unfoldable pub enum_walk : Path → EnumSyntax → Walk
enum_walk p e = declared p (head p) (enum_body p no_values e.body >> token)

-- ---- oneofs

-- Its fields are those of the message that owns it.
unfoldable pub oneof_statement : Path → Owner → FieldCounts → OneofStatementSyntax → Walk
oneof_statement p o c (oneof_option s) = option_statement (at p 2) s  -- options
oneof_statement p o c (oneof_field f) = field_statement o None c f

-- how many fields and messages stand behind a statement of a oneof
abbrev pub oneof_counted : FieldCounts → OneofStatementSyntax → FieldCounts
oneof_counted c (oneof_option s) = c
oneof_counted c (oneof_field f) = field_counted c f

-- the statements before which so many of the owner stand, with empty ones between them
unfoldable pub oneof_body : Path → Owner → FieldCounts → List OneofStatementSyntax → Walk
oneof_body p o c [] = empties
oneof_body p o c (s ∷ ss) =
    empties >> oneof_statement p o c s >> oneof_body p o (oneof_counted c s) ss

-- "oneof" ident "{" { ";" | option | field } "}"
unfoldable pub oneof_walk : Path → Owner → FieldCounts → OneofSyntax → Walk
oneof_walk p o c x = declared p (head p) (oneof_body p o c x.body >> token)

-- ---- extend

-- the tokens of the extendee's name, where `extend` stands next
abbrev pub extendee_ahead : Ahead → Range
extendee_ahead a = range_behind token name a

-- "extend" name "{" { ";" | field } "}". Its path is the list of extensions alone.
unfoldable pub extend_walk : Owner → FieldCounts → ExtendSyntax → Walk
extend_walk o c e = seeing (λ a.
    declared (at o.path o.fields)
    (token  -- `extend`
    >> name
    >> token)  -- `{`
    (field_body o (Some (extendee_ahead a)) c e.fields >> token))

-- ---- messages

-- the fields of a message, and the messages of their maps and groups
abbrev pub fields_of : MessageCounts → FieldCounts
fields_of c = record { fields = c.fields; messages = c.messages }

-- the same of its extensions
abbrev pub extensions_of : MessageCounts → FieldCounts
extensions_of c = record { fields = c.extensions; messages = c.messages }

-- with so many fields, and their messages
abbrev pub with_fields : MessageCounts → FieldCounts → MessageCounts
with_fields c f = record c { fields = f.fields; messages = f.messages }

-- with so many extensions, and their messages
abbrev pub with_extensions : MessageCounts → FieldCounts → MessageCounts
with_extensions c f = record c { extensions = f.fields; messages = f.messages }

-- with a oneof more
abbrev pub with_oneof : MessageCounts → MessageCounts
with_oneof c = record c { oneofs = next c.oneofs }

-- Extensions of a message: `extension` and `nested_type`.
abbrev pub extensions_in : Path → Owner
extensions_in p = record { path = p; fields = 6; messages = 3 }

-- "extensions" range { "," range } [ ";" ]. The `;` is the statement's, if one stands there.
unfoldable pub extensions_walk : Path → ℕ → ExtensionsSyntax → Walk
extensions_walk p i e =
    declared (at p 5)  -- extension_range
    (token >> ranges p 5 i e.ranges >> if_next (codes ";") token nothing) nothing

-- how many of each stand behind a statement of a message
abbrev pub counted : MessageCounts → MessageStatementSyntax → MessageCounts
counted c (message_reserved r) = record c {
  reserved_ranges = ranges_past c.reserved_ranges r.reserved;
  reserved_names = names_past c.reserved_names r.reserved;
}
counted c (message_oneof o) =
    with_oneof (with_fields c (fold oneof_counted (fields_of c) o.body))
counted c (message_extend e) =
    with_extensions c (fold field_counted (extensions_of c) e.fields)
counted c (message_message place n body) = record c { messages = next c.messages }
counted c (message_enum e) = record c { enums = next c.enums }
counted c (message_extensions e) = record c { ranges = past_items c.ranges e.ranges }
counted c (message_option o) = c
counted c (message_field f) = with_fields c (field_counted (fields_of c) f)

-- before the first statement of a message
abbrev pub no_parts : MessageCounts
no_parts = record {
  fields = 0;
  messages = 0;
  enums = 0;
  ranges = 0;
  extensions = 0;
  oneofs = 0;
  reserved_ranges = 0;
  reserved_names = 0;
}

unfoldable mutual
  -- a statement of the message at a path, before which so many stand
  pub message_statement : Path → MessageCounts → MessageStatementSyntax → Walk
  message_statement p c (message_reserved r) =
      reserved p 9 10 c.reserved_ranges c.reserved_names r.reserved
  message_statement p c (message_oneof o) =
      oneof_walk (nth p 8 c.oneofs) (of_message p) (fields_of c) o
  message_statement p c (message_extend e) = extend_walk (extensions_in p) (extensions_of c) e
  message_statement p c (message_message place n body) =
      declared (nth p 3 c.messages) (head (nth p 3 c.messages))
      (message_list (nth p 3 c.messages) no_parts body >> token)
  message_statement p c (message_enum e) = enum_walk (nth p 4 c.enums) e
  message_statement p c (message_extensions e) = extensions_walk p c.ranges e
  message_statement p c (message_option o) = option_statement (at p 7) o
  message_statement p c (message_field f) = field_statement (of_message p) None (fields_of c) f

  -- the statements before which so many stand, with empty ones between them
  pub message_list : Path → MessageCounts → MessageStatementList → Walk
  message_list p c no_statements = empties
  message_list p c (more_statements s ss) =
      empties >> message_statement p c s >> message_list p (counted c s) ss

-- the same, by a list
abbrev pub message_body : Path → MessageCounts → List MessageStatementSyntax → Walk
message_body p c ss = message_list p c (message_statements ss)

-- "message" ident "{" { ";" | reserved | oneof | extend | message | enum | .. } "}"
unfoldable pub message_walk : Path → MessageSyntax → Walk
message_walk p m = declared p (head p) (message_body p no_parts m.body >> token)
