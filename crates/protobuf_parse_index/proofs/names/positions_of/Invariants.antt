use Rattle.std.proofs.Common.{◌≡◌, ℕ, List, take, string_bytes}
use Rattle.std.specs.Prelude.{bytes_eq}
use Rattle.std.specs.BTreeMap.{get_by_text}
use Rattle.protobuf_parse_index.specs.Kept.{first_at}
use Rattle.protobuf_parse_index.proofs.names.positions_of.Given as goal

abbrev pub invariant-declared : goal.invariant-declared
invariant-declared g l = (q : List ℕ) → get_by_text l.positions q
    ≡ first_at (λ d. bytes_eq q (string_bytes d.full_name)) (take l.at l.declared)
