use Rattle.std.proofs.Common.{◌≡◌, drop, map, ap, ◌∙◌, arith}
use Rattle.protobuf_parse_merged.specs.Inside.{occurrence_view}
use Rattle.protobuf_parse_merged.specs.Oneofs as spec
use Rattle.protobuf_parse_merged.proofs.Members.{map_reverse}
use Rattle.protobuf_parse_merged.proofs.oneofs.counting.Goals as goal

pub returns : goal.returns
returns c =
    let none : c.back.at ≡ 0 = omega arith in
    ap (map occurrence_view) c.reverse.ensures.items
    ∙ map_reverse occurrence_view c.back.kept.items
    ∙ c.back.invariant.2
    ∙ ap (λ n. spec.counting (map occurrence_view (drop n c.args.occurrences.now))) none
