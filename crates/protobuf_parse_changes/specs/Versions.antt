-- What changed from an old version of files to a new one: of the files themselves, and then of the
-- messages, enums, services and extensions that the old files declare, in the order of the files and
-- of what stands in them.
use Rattle.std.specs.Prelude.{List, ◌++◌, flat_map}
use Rattle.protobuf_parse_model.specs.Descriptors.{FileDescriptor}
use Rattle.protobuf_parse_index.specs.Walk.{all_enums, all_extensions, all_messages}
use Rattle.protobuf_parse_index.specs.Walk.{all_services}
use Rattle.protobuf_parse_changes.specs.Changes.{Changed}
use Rattle.protobuf_parse_changes.specs.Enums.{enum_changes}
use Rattle.protobuf_parse_changes.specs.Extensions.{extension_changes}
use Rattle.protobuf_parse_changes.specs.Files.{file_changes}
use Rattle.protobuf_parse_changes.specs.Messages.{message_changes}
use Rattle.protobuf_parse_changes.specs.Services.{service_changes}

-- all that changed
abbrev pub changes_of : (old new : List FileDescriptor) → List Changed
changes_of old new =
    flat_map (file_changes new) old
    ++ (flat_map (message_changes old new) (all_messages old)
    ++ (flat_map (enum_changes old new) (all_enums old)
    ++ (flat_map (service_changes new) (all_services old)
    ++ flat_map (extension_changes new) (all_extensions old))))
