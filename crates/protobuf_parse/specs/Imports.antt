-- What the import scanner tells: a descriptor with the imports of a file, and nothing else of it.
use Rattle.std.specs.Prelude.{[], None}
use Rattle.protobuf_parse_syntax.specs.Dependencies.{FileImports}
use Rattle.protobuf_parse_model.specs.Descriptors.{FileDescriptor}

-- a descriptor with these imports and nothing else
abbrev pub imports_alone : FileImports → FileDescriptor
imports_alone found = record {
  name = None;
  «package» = None;
  syntax = None;
  dependency = found.paths;
  public_dependency = found.public;
  weak_dependency = found.weak;
  message_type = [];
  enum_type = [];
  service = [];
  extension = [];
  options = None;
}
