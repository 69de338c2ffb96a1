-- Where labels and maps stand in the messages and the `extend`s of a tree.
use Rattle.std.specs.Prelude.{◌≡◌, true, false, None, flat_map}
use Rattle.std.specs.List.{AllByRecursion}
use Rattle.protobuf_parse_syntax.specs.Trees.{FieldStatementSyntax, FileSyntax}
use Rattle.protobuf_parse_syntax.specs.Trees.{MessageStatementList, MessageStatementSyntax}
use Rattle.protobuf_parse_syntax.specs.Trees.{StatementSyntax, field, file_extend, file_message}
use Rattle.protobuf_parse_syntax.specs.Trees.{group, message_extend, message_field}
use Rattle.protobuf_parse_syntax.specs.Trees.{message_message, message_oneof, more_statements}
use Rattle.protobuf_parse_syntax.specs.Trees.{nested_message, no_statements}
use Rattle.protobuf_parse_model.specs.Statements.{is_map, oneof_fields}
use Rattle.protobuf_parse_elaboration.specs.Messages.{statement_label}

-- ---- all statements of a file

abbrev mutual
  -- P of a statement of a body, and of those inside it if it is a message
  pub InStatement : (MessageStatementSyntax → Type 0) → MessageStatementSyntax → Type 0
  InStatement P (message_message place name body) = InBody P body
  InStatement P s = P s

  -- P of all statements of a body, and of those inside them
  pub InBody : (MessageStatementSyntax → Type 0) → MessageStatementList → Type 0
  InBody P no_statements = Unit {0}
  InBody P (more_statements s ss) = InStatement P s × InBody P ss

-- P of those inside a statement of a file; an `extend` of a file is as one of a message
abbrev pub InFileStatement : (MessageStatementSyntax → Type 0) → StatementSyntax → Type 0
InFileStatement P (file_message m) = InStatement P (nested_message m)
InFileStatement P (file_extend e) = P (message_extend e)
InFileStatement P _ = Unit {0}

-- P of all statements of messages, and of all `extend`s, that stand in a file
abbrev pub Throughout : (MessageStatementSyntax → Type 0) → FileSyntax → Type 0
Throughout P t = AllByRecursion (InFileStatement P) t.statements

-- ---- what they may be

-- If a field is a map, it has no label.
abbrev pub NoLabelIfMap : FieldStatementSyntax → Type 0
NoLabelIfMap (field f) = is_map f.type_ ≡ true → f.label ≡ None
NoLabelIfMap (group place label name number fields) = Unit {0}

-- A map of a message has no label, as protoc asks.
abbrev pub MapHasNoLabel : MessageStatementSyntax → Type 0
MapHasNoLabel (message_field f) = NoLabelIfMap f
MapHasNoLabel _ = Unit {0}

-- A field has no label.
abbrev pub HasNoLabel : FieldStatementSyntax → Type 0
HasNoLabel f = statement_label f ≡ None

-- No field of a oneof has a label, as the grammar has it.
abbrev pub OneofHasNoLabels : MessageStatementSyntax → Type 0
OneofHasNoLabels (message_oneof o) = AllByRecursion HasNoLabel (flat_map oneof_fields o.body)
OneofHasNoLabels _ = Unit {0}

-- A field is no map.
abbrev pub IsNoMap : FieldStatementSyntax → Type 0
IsNoMap (field f) = is_map f.type_ ≡ false
IsNoMap (group place label name number fields) = Unit {0}

-- No map stands in an `extend`, where it is a fault (E4).
abbrev pub ExtendHasNoMaps : MessageStatementSyntax → Type 0
ExtendHasNoMaps (message_extend e) = AllByRecursion IsNoMap e.fields
ExtendHasNoMaps _ = Unit {0}
