use Rattle.std.proofs.Common.{◌≡◌, ℕ, List, take}
use Rattle.std.specs.Prelude.{bytes_eq}
use Rattle.std.specs.BTreeMap.{get_by_text}
use Rattle.protobuf_parse_model.specs.Descriptors.{file_view}
use Rattle.protobuf_parse_index.specs.Kept.{first_at}
use Rattle.protobuf_parse_index.specs.Walk.{path_of}
use Rattle.protobuf_parse_index.proofs.names.paths_of.Given as goal

abbrev pub invariant-files : goal.invariant-files
invariant-files l = (q : List ℕ) → get_by_text l.positions q
    ≡ first_at (λ f. bytes_eq q (path_of (file_view f))) (take l.at l.files)
