-- No public clause rests on this file.
-- The extensions that a tree declares are those of its descriptor.
use Rattle.std.specs.Prelude.{◌≡◌, List}
use Rattle.protobuf_parse_model.specs.Descriptors.{FieldDescriptor}
use Rattle.protobuf_parse_model.specs.Faults.{Among}
use Rattle.protobuf_parse_model.specs.Declarations.{Declared, DeclaredExtension}
use Rattle.protobuf_parse_model.specs.Environment.{Environment}
use Rattle.protobuf_parse_elaboration.specs.Fields.{field_statement_of}
use Rattle.protobuf_parse_elaboration.specs.Messages.{extending}

-- where the extension is declared
abbrev pub at_extension : Environment → DeclaredExtension → Environment
at_extension env e = record env { scope = e.what.scope }

-- the field that the extension becomes, by the same full name
abbrev pub described : Environment → DeclaredExtension → Declared FieldDescriptor
described env e = record {
  name = e.name;
  what = field_statement_of (at_extension env e)
      (extending (at_extension env e) e.what.extendee) e.what.field;
}

-- The extension is that of one that the tree declares.
pub record Comes (env : Environment) (es : List DeclaredExtension)
    (d : Declared FieldDescriptor) : Type 0 where
  pub extension : DeclaredExtension
  pub among : Among es extension
  pub is : described env extension ≡ d
