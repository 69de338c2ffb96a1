use Rattle.std.proofs.Common.{◌≡◌, take, string_bytes}
use Rattle.std.specs.Prelude.{bytes_eq}
use Rattle.std.specs.BTreeMap.{get_by_text}
use Rattle.protobuf_parse_source_info.specs.Walks.{Path}
use Rattle.protobuf_parse_locations.specs.Kept.{first_at}
use Rattle.protobuf_parse_locations.proofs.positions.by_names.Given as goal

abbrev pub invariant-declared : goal.invariant-declared
invariant-declared l = (q : Path) → get_by_text l.positions q
    ≡ first_at (λ d. bytes_eq q (string_bytes d.full_name)) (take l.at l.declarations)
