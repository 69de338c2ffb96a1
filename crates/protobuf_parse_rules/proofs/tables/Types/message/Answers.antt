use Rattle.std.proofs.Common.{flat_map}
use Rattle.protobuf_parse_rules.specs.Known.{message_name, known_message}
use Rattle.protobuf_parse_rules.specs.Lookups.{message_at}
use Rattle.protobuf_parse_rules.proofs.Naming.{found_behind}
use Rattle.protobuf_parse_rules.proofs.tables.Types.message.Goals as goal

pub returns : goal.returns
returns c = λ all knows.
    found_behind known_message message_name c.args.self.now.messages (flat_map message_at all)
    c.args.name c.keyed.result c.get.result c.keyed.ensures c.get.ensures.value knows.messages
