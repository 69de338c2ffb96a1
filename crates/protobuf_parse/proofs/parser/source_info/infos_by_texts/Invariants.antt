use Rattle.std.proofs.Common.{map, take}
use Rattle.protobuf_parse_model.specs.Descriptors.{file_view}
use Rattle.protobuf_parse.specs.SourceInfo.{AreInfosOf}
use Rattle.protobuf_parse.proofs.parser.source_info.infos_by_texts.Given as goal

abbrev pub invariant-files : goal.invariant-files
invariant-files l = AreInfosOf (map file_view l.index) (map file_view (take l.file-index l.files))
    l.infos.items
