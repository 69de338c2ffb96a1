use Rattle.std.proofs.Common.{map, take}
use Rattle.std.specs.List.{flat_map}
use Rattle.protobuf_parse_model.specs.Descriptors.{file_view}
use Rattle.protobuf_parse_wire.specs.Declarations.{messages_declared_in, extensions_declared_in}
use Rattle.protobuf_parse_wire.specs.Indexed.{IndexAdds}
use Rattle.protobuf_parse_wire.proofs.reader.index.index_of.Given as goal

abbrev pub invariant-files : goal.invariant-files
invariant-files l = IndexAdds l.initial.index l.index
    (flat_map messages_declared_in (map file_view (take l.file-index l.files)))
    (flat_map extensions_declared_in (map file_view (take l.file-index l.files)))
