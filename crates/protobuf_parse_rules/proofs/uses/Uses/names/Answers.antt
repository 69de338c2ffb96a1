use Rattle.protobuf_parse_rules.specs.Imports.{file_names}
use Rattle.protobuf_parse_rules.proofs.uses.Uses.names.Goals as goal

pub returns : goal.returns
returns c = λ all knows. c.has_link.ensures (file_names all) knows.links
