use Rattle.protobuf_parse_source_info.specs.Declarations.{enum_statement}
use Rattle.protobuf_parse_source_info.proofs.walker.Walker.enum_statement.Goals as goal

pub returns-in-Reserved : goal.returns-in-Reserved
unfolding enum_statement
returns-in-Reserved c = rw c.in-Reserved.is c.reserved.ensures

pub returns-in-Option : goal.returns-in-Option
unfolding enum_statement
returns-in-Option c = rw c.in-Option.is c.option.ensures

pub returns-in-Value : goal.returns-in-Value
unfolding enum_statement
returns-in-Value c = rw c.in-Value.is c.value.ensures
