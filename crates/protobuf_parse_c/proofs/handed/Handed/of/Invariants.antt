use Rattle.std.proofs.Common.{◌≡◌, List, ℕ, map, take}
use Rattle.protobuf_parse_c.specs.Handed.{content_in, file_bytes}
use Rattle.protobuf_parse_c.specs.ByPath.{content_at}
use Rattle.protobuf_parse_c.proofs.handed.Handed.of.Given as goal

abbrev pub invariant-files : goal.invariant-files
invariant-files l = (path : List ℕ)
    → content_at l.by_path path ≡ content_in (map file_bytes (take l.file-index l.files)) path
