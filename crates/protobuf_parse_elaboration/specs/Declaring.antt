-- No public clause rests on this file.
-- What statements declare, by kinds, as the code asks for it.
use Rattle.std.specs.Prelude.{List, [], map}
use Rattle.protobuf_parse_syntax.specs.Trees.{MessageStatementSyntax, StatementSyntax}
use Rattle.protobuf_parse_syntax.specs.declared.tree.Syntax.{Syntax}
use Rattle.protobuf_parse_model.specs.Duplicates.{NamedAt}
use Rattle.protobuf_parse_elaboration.specs.declared.constructs.declared.DeclaredAs.{DeclaredAs}
use Rattle.protobuf_parse_elaboration.specs.declared.constructs.declared.DeclaredAs.TheVariants as as_
use Rattle.protobuf_parse_elaboration.specs.declared.constructs.told.NamedAt as code
use Rattle.protobuf_parse_elaboration.specs.Messages.{fields_named, oneofs_named, extensions_named}
use Rattle.protobuf_parse_elaboration.specs.Messages.{enums_named, messages_named}
use Rattle.protobuf_parse_elaboration.specs.FileDescriptor.{file_messages_named, file_enums_named}
use Rattle.protobuf_parse_elaboration.specs.FileDescriptor.{file_extensions_named, services_named}

abbrev pub named_by : DeclaredAs → Syntax → MessageStatementSyntax → List NamedAt
named_by as_.Field syntax s = fields_named s
named_by as_.Oneof syntax s = oneofs_named syntax s
named_by as_.Extension syntax s = extensions_named s
named_by as_.Enum syntax s = enums_named s
named_by as_.Message syntax s = messages_named s
named_by as_.Other syntax s = []

abbrev pub named_by_file : DeclaredAs → StatementSyntax → List NamedAt
named_by_file as_.Extension s = file_extensions_named s
named_by_file as_.Enum s = file_enums_named s
named_by_file as_.Message s = file_messages_named s
named_by_file as_.Other s = services_named s
named_by_file as_.Field s = []
named_by_file as_.Oneof s = []

abbrev pub name_at : code.NamedAt → NamedAt
name_at n = record { place = n.place; name = n.name.now }

abbrev pub names_at : List code.NamedAt → List NamedAt
names_at names = map name_at names
