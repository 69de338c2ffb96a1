use Rattle.std.proofs.Common.{map}
use Rattle.protobuf_parse_model.specs.Descriptors.{file_view}
use Rattle.protobuf_parse_command.specs.Infos.{AreInfos}
use Rattle.protobuf_parse_command.proofs.infos.infos_with.Given as goal

abbrev pub invariant-files : goal.invariant-files
invariant-files l = AreInfos l.sources (map file_view l.index) l.infos
