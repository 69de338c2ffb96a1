use Rattle.protobuf_parse_source_info.specs.Declarations.{oneof_statement}
use Rattle.protobuf_parse_source_info.proofs.walker.Walker.oneof_statement.Goals as goal

pub returns-in-Option : goal.returns-in-Option
unfolding oneof_statement
returns-in-Option c = rw c.in-Option.is c.option.ensures

pub returns-in-Field : goal.returns-in-Field
unfolding oneof_statement
returns-in-Field c = rw c.in-Field.is c.field_statement.ensures
