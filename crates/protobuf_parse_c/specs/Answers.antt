-- What is compiled for C.
use Rattle.std.specs.Prelude.{◌≡◌, ◌⊎◌, ℕ, List, Option, map, Result, Ok, Err}
use Rattle.std.specs.Global.{Vec}
use Rattle.protobuf_parse_model.specs.Descriptors.{Text, FileDescriptor, file_view}
use Rattle.protobuf_parse_model.specs.declared.descriptor.FileDescriptorProto.{FileDescriptorProto}
use Rattle.protobuf_parse_descriptor_set.specs.DescriptorItems.{FileAndInfo, set_bytes}
use Rattle.protobuf_parse_descriptor_set.specs.DescriptorItems.{set_bytes_with_info}
use Rattle.protobuf_parse_google.specs.Google.{google}
use Rattle.protobuf_parse_run.specs.declared.fault.ReadInputFault.{ReadInputFault}
use Rattle.protobuf_parse_run.specs.declared.fault.ReadInputFault.TheVariants.{NotFound}
use Rattle.protobuf_parse_run.specs.Walks.{Input, named}
use Rattle.protobuf_parse_run.specs.Shipped.{RunsWithTable}
use Rattle.protobuf_parse_c.specs.Handed.{FileBytes, IsOfHanded, content_in}

-- the bytes are those of a `FileDescriptorSet` of the files, each with some source info or none
pub record IsSpelledWithInfo (files : List FileDescriptor) (bytes : List ℕ) : Type 0 where
  pub with_info : List FileAndInfo
  pub same : map (λ (f : FileAndInfo). f.file) with_info ≡ files
  pub spelled : bytes ≡ set_bytes_with_info with_info

-- the bytes are those of a `FileDescriptorSet` of the files
abbrev pub IsSpelled : List FileDescriptor → (bytes : List ℕ) → Type 0
IsSpelled files bytes = (bytes ≡ set_bytes files) ⊎ IsSpelledWithInfo files bytes

-- nobody has inputs at paths of their own
abbrev pub IsOfNobody : Text → Result (Vec ℕ) ReadInputFault → Type 0
IsOfNobody own answer = answer ≡ Err NotFound

-- The bytes are a set of all that a run over these inputs gave, imports first. It read the files that
-- have this content at their paths, and Google's where there is none.
pub record IsMade (content : Text → Option Text) (inputs : List Input) (bytes : List ℕ) : Type 0 where
  pub descriptors : Vec FileDescriptorProto
  pub run : RunsWithTable (λ path answer. IsOfHanded (content path) answer) IsOfNobody google inputs
      (Ok descriptors)
  pub spelled : IsSpelled (map file_view descriptors.items) bytes

-- The same, of files as they were handed over, and of inputs by their proto paths.
abbrev pub IsCompiled : List FileBytes → (inputs : List Text) → (bytes : List ℕ) → Type 0
IsCompiled files inputs bytes = IsMade (content_in files) (map named inputs) bytes
