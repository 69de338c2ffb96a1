use Rattle.std.proofs.Common.{◌≡◌, ◌++◌, ℤ, List, length, map, take, string_bytes}
use Rattle.protobuf_parse_model.specs.Descriptors.{oneof_view}
use Rattle.protobuf_parse_rules.specs.Marks.{Marks}
use Rattle.protobuf_parse_rules.specs.Oneofs.{oneof_breaches}
use Rattle.protobuf_parse_rules.specs.Positions.{by_position}
use Rattle.protobuf_parse_rules.specs.Rules.{breaches_told}
use Rattle.protobuf_parse_rules.proofs.oneofs.check_each.Given as goal

abbrev pub invariant-oneofs : goal.invariant-oneofs
invariant-oneofs l = (held : List ℤ) → Marks held (length l.oneofs) l.marks →
    breaches_told l.told ≡ breaches_told l.fn.told
    ++ by_position (oneof_breaches l.body.file.now (string_bytes l.body.scope) held) 0
    (map oneof_view (take l.position l.oneofs))
