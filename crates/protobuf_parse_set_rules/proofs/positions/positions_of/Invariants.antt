use Rattle.std.proofs.Common.{◌≡◌, List, ℕ, take}
use Rattle.protobuf_parse_set_rules.specs.Positions.{position_in}
use Rattle.protobuf_parse_set_rules.specs.Held.{positions_view, texts_of}
use Rattle.protobuf_parse_set_rules.proofs.positions.positions_of.Given as goal

abbrev pub invariant-texts : goal.invariant-texts
invariant-texts l = (other : List ℕ)
    → positions_view l.positions other ≡ position_in (texts_of (take l.position l.texts)) other
