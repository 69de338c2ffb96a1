-- What a file with source info says.
use Rattle.std.specs.Prelude.{option_map}
use Rattle.protobuf_parse_model.specs.Descriptors.{file_view}
use Rattle.protobuf_parse_descriptor_set.specs.declared.source_info.FileWithInfo.{FileWithInfo}
use Rattle.protobuf_parse_descriptor_set.specs.DescriptorItems.{FileAndInfo}

-- the file, and the bytes of its source info, if it is to have one
abbrev pub file_and_info : FileWithInfo → FileAndInfo
file_and_info f = record {
  file = file_view f.file.now;
  source_code_info = option_map (λ b. b.now) f.source_code_info;
}
