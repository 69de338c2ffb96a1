-- What is asked of trees, of a statement at a time.
use Rattle.std.proofs.Common.{List, [], ◌∷◌}
use Rattle.std.specs.List.{AllByRecursion}
use Rattle.protobuf_parse_syntax.specs.Trees.{MessageStatementList, MessageStatementSyntax}
use Rattle.protobuf_parse_syntax.specs.Trees.{StatementSyntax, file_extend, file_message}
use Rattle.protobuf_parse_syntax.specs.Trees.{message_message, message_statements, more_statements}
use Rattle.protobuf_parse_syntax.specs.Trees.{no_statements}
use Rattle.protobuf_parse_location_laws.specs.Standing.{ExtendHasNoMaps, InBody, InFileStatement}
use Rattle.protobuf_parse_location_laws.specs.Standing.{InStatement, MapHasNoLabel}
use Rattle.protobuf_parse_location_laws.specs.Standing.{OneofHasNoLabels}

-- All that is asked of a statement.
abbrev pub MayStand : MessageStatementSyntax → Type 0
MayStand s = MapHasNoLabel s × OneofHasNoLabels s × ExtendHasNoMaps s

mutual
  statement_may : (s : MessageStatementSyntax) → InStatement MapHasNoLabel s
      → InStatement OneofHasNoLabels s → InStatement ExtendHasNoMaps s → InStatement MayStand s
  statement_may (message_message place name body) maps oneofs extends =
      body_may body maps oneofs extends
  statement_may s maps oneofs extends = (maps, oneofs, extends)

  body_may : (ss : MessageStatementList) → InBody MapHasNoLabel ss → InBody OneofHasNoLabels ss
      → InBody ExtendHasNoMaps ss → InBody MayStand ss
  body_may no_statements maps oneofs extends = tt
  body_may (more_statements s ss) maps oneofs extends = (
    statement_may s maps.0 oneofs.0 extends.0,
    body_may ss maps.1 oneofs.1 extends.1,
  )

file_statement_may : (s : StatementSyntax) → InFileStatement MapHasNoLabel s
    → InFileStatement OneofHasNoLabels s → InFileStatement ExtendHasNoMaps s
    → InFileStatement MayStand s
file_statement_may (file_message m) maps oneofs extends =
    body_may (message_statements m.body) maps oneofs extends
file_statement_may (file_extend e) maps oneofs extends = (maps, oneofs, extends)
file_statement_may _ maps oneofs extends = tt

pub all_may : (ss : List StatementSyntax) → AllByRecursion (InFileStatement MapHasNoLabel) ss
    → AllByRecursion (InFileStatement OneofHasNoLabels) ss
    → AllByRecursion (InFileStatement ExtendHasNoMaps) ss
    → AllByRecursion (InFileStatement MayStand) ss
all_may [] maps oneofs extends = tt
all_may (s ∷ ss) maps oneofs extends = (
  file_statement_may s maps.0 oneofs.0 extends.0,
  all_may ss maps.1 oneofs.1 extends.1,
)
