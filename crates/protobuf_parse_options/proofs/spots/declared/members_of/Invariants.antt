use Rattle.std.proofs.Common.{◌≡◌, ◌++◌, drop}
use Rattle.protobuf_parse_options.specs.HoldingParts.{messages_spotted, spotted_by}
use Rattle.protobuf_parse_options.specs.Spots.{spotted_inside}
use Rattle.protobuf_parse_options.proofs.spots.declared.members_of.Given as goal

abbrev pub invariant-messages : goal.invariant-messages
invariant-messages g l =
    let name_of = g.T.Member.name_of in
    let inside = g.T.Member.inside in
    spotted_inside name_of inside (messages_spotted l.messages)
    ≡ spotted_by g.T.Member.view l.list.items
    ++ spotted_inside name_of inside (messages_spotted (drop l.message-index l.messages))
