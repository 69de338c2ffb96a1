use Rattle.protobuf_parse_source_info.specs.Files.{service_statement}
use Rattle.protobuf_parse_source_info.proofs.walker.Walker.service_statement.Goals as goal

pub returns-in-Method : goal.returns-in-Method
unfolding service_statement
returns-in-Method c = rw c.in-Method.is c.method.ensures

pub returns-in-Option : goal.returns-in-Option
unfolding service_statement
returns-in-Option c = rw c.in-Option.is c.option.ensures
