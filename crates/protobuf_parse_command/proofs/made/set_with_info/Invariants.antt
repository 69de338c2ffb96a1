use Rattle.std.proofs.Common.{◌≡◌, map, take}
use Rattle.protobuf_parse_descriptor_set.specs.SourceInfo.{file_and_info}
use Rattle.protobuf_parse_command.specs.Made.{with_info}
use Rattle.protobuf_parse_command.proofs.made.set_with_info.Given as goal

abbrev pub invariant-files : goal.invariant-files
invariant-files l =
    map file_and_info l.with_info.items ≡ map (with_info l.infos) (take l.file-index l.files)
