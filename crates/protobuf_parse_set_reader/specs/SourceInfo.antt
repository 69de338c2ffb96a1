-- What a file with source info says.
use Rattle.std.specs.Prelude.{option_map}
use Rattle.protobuf_parse_model.specs.Descriptors.{file_view}
use Rattle.protobuf_parse_set_reader.specs.declared.source_info.SetFile.{SetFile}
use Rattle.protobuf_parse_set_reader.specs.Reading.{SetFileView}

-- the file, and the bytes of its source info, if it has one
abbrev pub set_file_view : SetFile → SetFileView
set_file_view f = record {
  file = file_view f.file;
  source_code_info = option_map (λ v. v.items) f.source_code_info;
}
