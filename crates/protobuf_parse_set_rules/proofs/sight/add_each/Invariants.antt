use Rattle.std.proofs.Common.{◌≡◌, ℕ, Bool, take}
use Rattle.std.specs.Prelude.{◌||◌}
use Rattle.std.specs.List.{list_any}
use Rattle.protobuf_parse_set_rules.proofs.sight.add_each.Given as goal

abbrev pub invariant-positions : goal.invariant-positions
invariant-positions l = (test : ℕ → Bool) → list_any test l.open.keys
    ≡ (list_any test l.fn.open.keys || list_any test (take l.position-index l.positions))
