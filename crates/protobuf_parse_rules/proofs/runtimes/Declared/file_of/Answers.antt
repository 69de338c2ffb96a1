use Rattle.std.proofs.Common.{Some, None, map}
use Rattle.protobuf_parse_rules.specs.Names.{name_claim}
use Rattle.protobuf_parse_rules.proofs.Declaring.{file_found}
use Rattle.protobuf_parse_rules.proofs.runtimes.Declared.file_of.Goals as goal

pub returns-in-Some : goal.returns-in-Some
returns-in-Some c = λ s tells.
    file_found s.named c.args.name.now (Some c.in-Some.first)
    (c.in-Some.ensures (map name_claim s.named) tells.names)

pub returns-in-None : goal.returns-in-None
returns-in-None c = λ s tells.
    file_found s.named c.args.name.now None
    (c.in-None.ensures (map name_claim s.named) tells.names)
