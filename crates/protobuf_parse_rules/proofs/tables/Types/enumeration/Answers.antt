use Rattle.std.proofs.Common.{flat_map}
use Rattle.protobuf_parse_rules.specs.Known.{enum_name, known_enum}
use Rattle.protobuf_parse_rules.specs.Lookups.{enums_at}
use Rattle.protobuf_parse_rules.proofs.Naming.{found_behind}
use Rattle.protobuf_parse_rules.proofs.tables.Types.enumeration.Goals as goal

pub returns : goal.returns
returns c = λ all knows.
    found_behind known_enum enum_name c.args.self.now.enums (flat_map enums_at all) c.args.name
    c.keyed.result c.get.result c.keyed.ensures c.get.ensures.value knows.enums
