use Rattle.protobuf_parse_source_info.specs.Files.{statement}
use Rattle.protobuf_parse_source_info.proofs.walker.Walker.statement.Goals as goal

pub returns-in-Import : goal.returns-in-Import
unfolding statement
returns-in-Import c = rw c.in-Import.is c.import.ensures

pub returns-in-Package : goal.returns-in-Package
unfolding statement
returns-in-Package c = rw c.in-Package.is c.package.ensures

pub returns-in-Option : goal.returns-in-Option
unfolding statement
returns-in-Option c = rw c.in-Option.is c.option.ensures

pub returns-in-Message : goal.returns-in-Message
unfolding statement
returns-in-Message c = rw c.in-Message.is c.message.ensures

pub returns-in-Enumeration : goal.returns-in-Enumeration
unfolding statement
returns-in-Enumeration c = rw c.in-Enumeration.is c.enumeration.ensures

pub returns-in-Extend : goal.returns-in-Extend
unfolding statement
returns-in-Extend c =
    rw c.in-Extend.is (rw (c.file.ensures, c.extensions.ensures) at c.extend.ensures)

pub returns-in-Service : goal.returns-in-Service
unfolding statement
returns-in-Service c = rw c.in-Service.is c.service.ensures
