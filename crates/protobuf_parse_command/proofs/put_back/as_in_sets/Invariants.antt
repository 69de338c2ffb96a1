-- The files so far are as their sets have them.
use Rattle.std.proofs.Common.{◌≡◌, map, take}
use Rattle.protobuf_parse_model.specs.Descriptors.{file_view}
use Rattle.protobuf_parse_command.specs.Finding.{as_in_set}
use Rattle.protobuf_parse_command.proofs.put_back.as_in_sets.Given as goal

abbrev pub invariant-files : goal.invariant-files
invariant-files l = map file_view l.found.items ≡ map (as_in_set l.own) (take l.file-index l.files)
