use Rattle.std.proofs.Common.{◌≡◌, take}
use Rattle.std.specs.Prelude.{bytes_eq}
use Rattle.protobuf_parse_source_info.specs.Walks.{Path}
use Rattle.protobuf_parse_locations.specs.Kept.{first_at, path_kept}
use Rattle.protobuf_parse_locations.proofs.positions.by_paths.Given as goal

abbrev pub invariant-declared : goal.invariant-declared
invariant-declared l = (q : Path) → path_kept l.positions q
    ≡ first_at (λ d. bytes_eq q d.path.items) (take l.at l.declarations)
