use Rattle.protobuf_parse_elaboration.proofs.NamedTypes.{names_are_declared, types_are_named}
use Rattle.protobuf_parse_elaboration.proofs.NamedTypes.{extendees_are_named, messages_are_named}
use Rattle.protobuf_parse_elaboration.proofs.laws.types_are_declared.Goals as goal

pub returns-clause-declared : goal.returns-clause-declared
returns-clause-declared c = names_are_declared

pub returns-clause-named : goal.returns-clause-named
returns-clause-named c = types_are_named

pub returns-clause-extendees : goal.returns-clause-extendees
returns-clause-extendees c = extendees_are_named

pub returns-clause-messages : goal.returns-clause-messages
returns-clause-messages c = messages_are_named
