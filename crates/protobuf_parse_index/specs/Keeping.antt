-- What the fields of an index say of the files: its invariant, which callers do not see.
use Rattle.std.specs.Prelude.{◌≡◌, List, map}
use Rattle.protobuf_parse_model.specs.declared.descriptor.FileDescriptorProto.{FileDescriptorProto}
use Rattle.protobuf_parse_model.specs.Descriptors.{FileDescriptor, file_view}
use Rattle.protobuf_parse_index.specs.Kept.{HasExtensions, HasPaths, HasPositions, Walks, field_at}
use Rattle.protobuf_parse_index.specs.Kept.{own_fields, own_values, value_at}
use Rattle.protobuf_parse_index.specs.Walk.{all_enums, all_extensions, all_messages}
use Rattle.protobuf_parse_index.specs.Walk.{all_services}
use Rattle.protobuf_parse_index.specs.Views.{standing_service}
use Rattle.protobuf_parse_index.specs.declared.index.Index.TheInside.{Inside}

-- Each part of the index has what the files declare.
pub record Indexes (files : List FileDescriptor) (i : Inside) : Type 0 where
  pub walk : Walks files i.declared
  pub messages : HasPositions i.messages_by_name (all_messages files)
  pub enums : HasPositions i.enums_by_name (all_enums files)
  pub extensions : HasPositions i.extensions_by_name (all_extensions files)
  pub services : map standing_service i.services.items ≡ all_services files
  pub service_names : HasPositions i.services_by_name (all_services files)
  pub paths : HasPaths i.files_by_path files
  pub fields : map field_at i.fields.items ≡ map own_fields (all_messages files)
  pub values : map value_at i.values.items ≡ map own_values (all_enums files)
  pub extended : HasExtensions i.extensions_by_number (all_extensions files)

-- the descriptors that an index was made of
abbrev pub files_seen : Inside → List FileDescriptorProto
files_seen i = i.files.now

-- the index says what these files declare
abbrev pub IsIndex : Inside → Type 0
IsIndex i = Indexes (map file_view i.files.now) i
