use Rattle.std.proofs.Common.{[], map, take}
use Rattle.protobuf_parse_model.specs.Descriptors.{field_view}
use Rattle.protobuf_parse_wire.specs.Indexed.{IndexAdds}
use Rattle.protobuf_parse_wire.proofs.reader.index.add_extensions.Given as goal

abbrev pub invariant-extensions : goal.invariant-extensions
invariant-extensions l =
    IndexAdds l.fn.index l.index [] (map field_view (take l.extension-index l.extensions))
