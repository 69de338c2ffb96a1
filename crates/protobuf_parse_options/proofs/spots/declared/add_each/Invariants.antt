use Rattle.std.proofs.Common.{◌≡◌, ◌++◌, drop, map}
use Rattle.protobuf_parse_options.specs.HoldingParts.{spotted_by}
use Rattle.protobuf_parse_options.specs.Spots.{spotted_each}
use Rattle.protobuf_parse_options.proofs.spots.declared.add_each.Given as goal

abbrev pub invariant-loop-index : goal.invariant-loop-index
invariant-loop-index g l =
    let seen = g.T.Member.view in
    let name_of = g.T.Member.name_of in
    spotted_by seen l.fn.list.items ++ spotted_each name_of l.scope l.path 0 (map seen l.members)
    ≡ spotted_by seen l.list.items ++ spotted_each name_of l.scope l.path l.index
    (map seen (drop l.index l.members))
