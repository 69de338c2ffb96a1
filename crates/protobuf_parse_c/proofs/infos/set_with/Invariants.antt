-- The files so far stand in the list, each with some source info or none.
use Rattle.std.proofs.Common.{◌≡◌, map, take}
use Rattle.protobuf_parse_model.specs.Descriptors.{file_view}
use Rattle.protobuf_parse_descriptor_set.specs.DescriptorItems.{FileAndInfo}
use Rattle.protobuf_parse_descriptor_set.specs.SourceInfo.{file_and_info}
use Rattle.protobuf_parse_c.proofs.infos.set_with.Given as goal

abbrev pub invariant-files : goal.invariant-files
invariant-files l =
    map (λ (f : FileAndInfo). f.file) (map file_and_info l.with_info.items)
    ≡ map file_view (take l.i l.files)
