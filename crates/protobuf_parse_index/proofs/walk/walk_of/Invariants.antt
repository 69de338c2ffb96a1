use Rattle.std.proofs.Common.{map, take}
use Rattle.protobuf_parse_model.specs.Descriptors.{file_view}
use Rattle.protobuf_parse_index.specs.Puts.{WalkAdds}
use Rattle.protobuf_parse_index.specs.Walk.{all_enums, all_extensions, all_messages}
use Rattle.protobuf_parse_index.proofs.walk.walk_of.Given as goal

abbrev pub invariant-files : goal.invariant-files
invariant-files l = WalkAdds l.initial.walk l.walk
    (all_messages (map file_view (take l.file-index l.files)))
    (all_enums (map file_view (take l.file-index l.files)))
    (all_extensions (map file_view (take l.file-index l.files)))
