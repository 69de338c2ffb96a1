-- No public clause rests on this file.
-- Contents that are kept by their paths.
use Rattle.std.specs.Prelude.{ℕ, List, Option, option_map}
use Rattle.std.specs.Borrow.{Bor}
use Rattle.std.specs.BTreeMap.{BTreeMap, get_by}
use Rattle.std.specs.Cmp.Lexicographic.{slice_cmp}
use Rattle.std.specs.Ordering.{nat_cmp}
use Rattle.protobuf_parse_model.specs.Descriptors.{Text}

-- the content that is kept under the path
abbrev pub content_at : BTreeMap (Bor (List ℕ)) (Bor (List ℕ)) → (path : Text) → Option Text
content_at by_path path =
    option_map (λ (c : Bor (List ℕ)). c.now)
    (get_by (λ (k : Bor (List ℕ)). slice_cmp nat_cmp path k.now) by_path)
