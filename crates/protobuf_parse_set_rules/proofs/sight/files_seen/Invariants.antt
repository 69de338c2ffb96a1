use Rattle.std.proofs.Common.{◌≡◌, ℕ, length}
use Rattle.std.specs.Prelude.{◌||◌}
use Rattle.std.specs.List.{list_any}
use Rattle.protobuf_parse_set_rules.specs.Sights.{hands_on, sees_file}
use Rattle.protobuf_parse_set_rules.specs.Held.{has, known_view}
use Rattle.protobuf_parse_set_rules.proofs.Ways.{top}
use Rattle.protobuf_parse_set_rules.proofs.sight.files_seen.Given as goal

abbrev pub invariant-open : goal.invariant-open
invariant-open l = (to : ℕ)
    → (has l.seen to || list_any (λ via. hands_on (known_view l.known).publics
    (length (known_view l.known).publics) via to) l.open.keys)
    ≡ sees_file (known_view l.known).publics l.own l.imports to

abbrev pub decreases-open : goal.decreases-open
decreases-open l = top l.open.keys
