use Rattle.std.proofs.Common.{flat_map}
use Rattle.protobuf_parse_rules.specs.Runtimes.{file_at}
use Rattle.protobuf_parse_rules.proofs.uses.Uses.file.Goals as goal

pub returns : goal.returns
returns c = λ all knows. c.file_with.ensures (flat_map file_at all) knows.files
