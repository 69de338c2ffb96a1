-- What the code has, without where it lies in memory.
use Rattle.std.specs.Prelude.{map}
use Rattle.protobuf_parse_model.specs.Descriptors.{file_view}
use Rattle.protobuf_parse_model.specs.SeenFiles.{name_texts}
use Rattle.protobuf_parse_name_rules.specs.Lookups as spec
use Rattle.protobuf_parse_name_rules.specs.declared.files.NameFiles.{NameFiles}

-- the files
abbrev pub files_view : NameFiles → spec.NameFiles
files_view f = record { reached = map file_view f.index.now; seen = name_texts f.seen.now }
