-- No public clause rests on this file.
-- What the command makes of what it told and of the files.
use Rattle.std.specs.Prelude.{◌≡◌, ℕ, Bool, true, false, List, filter, map, Option, Some, None}
use Rattle.std.specs.Prelude.{if◌then◌else◌, option_map, String, string_bytes}
use Rattle.std.specs.BTreeMap.{BTreeMap, get_by_text}
use Rattle.std.specs.Global.{Global, Vec}
use Rattle.std.specs.Option.{option_and_then}
use Rattle.protobuf_parse_base.specs.PathViews.{path_buf_text}
use Rattle.protobuf_parse_base.specs.declared.proto_path.path.ProtoPathBuf.{ProtoPathBuf}
use Rattle.protobuf_parse_model.specs.Descriptors.{Text, file_view}
use Rattle.protobuf_parse_model.specs.declared.descriptor.FileDescriptorProto.{FileDescriptorProto}
use Rattle.protobuf_parse_descriptor_set.specs.DescriptorItems.{FileAndInfo, set_bytes}
use Rattle.protobuf_parse_descriptor_set.specs.DescriptorItems.{set_bytes_with_info}
use Rattle.protobuf_parse.specs.Parsers.{is_of_input}
use Rattle.protobuf_parse_diagnostics.specs.declared.diagnostic.Diagnostic.{Diagnostic}
use Rattle.protobuf_parse_diagnostics.specs.declared.diagnostic.Severity.{Severity}
use Rattle.protobuf_parse_diagnostics.specs.declared.diagnostic.Severity.TheVariants as severity
use Rattle.protobuf_parse_command.specs.declared.arguments.Arguments.{Arguments}

-- whether nothing is written where it is told: that of an error, or of a warning where these are as
-- bad
abbrev pub is_fatal_severity : (fatal_warnings : Bool) → Severity → Bool
is_fatal_severity fatal_warnings severity.Error = true
is_fatal_severity fatal_warnings severity.Warning = fatal_warnings

-- whether nothing is written where this is told
abbrev pub is_fatal : (fatal_warnings : Bool) → Diagnostic → Bool
is_fatal fatal_warnings d = is_fatal_severity fatal_warnings d.severity

-- the files of the set: with imports all, and else those whose name is the proto path of an input,
-- in their order
abbrev pub chosen : Bool → List ProtoPathBuf → List FileDescriptorProto → List FileDescriptorProto
chosen include_imports inputs files =
    if include_imports then files else filter (is_of_input (map path_buf_text inputs)) files

-- the source info that is kept of the file, by its name
abbrev pub info_of_file : BTreeMap (String Global) (Vec ℕ) → FileDescriptorProto → Option Text
info_of_file infos f = option_map (λ (v : Vec ℕ). v.items)
    (option_and_then (λ (name : String Global). get_by_text infos (string_bytes name)) f.name)

-- the file, with that
abbrev pub with_info : BTreeMap (String Global) (Vec ℕ) → FileDescriptorProto → FileAndInfo
with_info infos f = record { file = file_view f; source_code_info = info_of_file infos f }

-- the bytes of a `FileDescriptorSet` of the files, with their source info if that is asked for
abbrev pub bytes_asked : (with_source_info : Bool) → BTreeMap (String Global) (Vec ℕ)
    → List FileDescriptorProto → List ℕ
bytes_asked with_source_info infos files =
    if with_source_info then set_bytes_with_info (map (with_info infos) files)
    else set_bytes (map file_view files)

-- The set is there just where a file for it is named, and has these bytes.
abbrev pub IsSetOf : {P : Type 0} → Option P → List ℕ → Option (Vec ℕ) → Type 0
IsSetOf None bytes set = set ≡ None
IsSetOf (Some path) bytes None = ⊥
IsSetOf (Some path) bytes (Some found) = found.items ≡ bytes

-- It is one of the chosen files.
abbrev pub IsSetAsked : Arguments → List ProtoPathBuf → List FileDescriptorProto
    → BTreeMap (String Global) (Vec ℕ) → Option (Vec ℕ) → Type 0
IsSetAsked arguments inputs files infos set =
    IsSetOf arguments.set_path
    (bytes_asked arguments.include_source_info infos
    (chosen arguments.include_imports inputs files)) set
