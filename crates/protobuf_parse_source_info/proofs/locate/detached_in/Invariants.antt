use Rattle.std.proofs.Common.{◌≡◌, ◌++◌, map, flat_map, drop}
use Rattle.protobuf_parse_source_info.specs.Info.{comments_in}
use Rattle.protobuf_parse_source_info.specs.Views.{comment_bytes}
use Rattle.protobuf_parse_source_info.proofs.locate.detached_in.Given as goal

abbrev pub invariant-gaps : goal.invariant-gaps
invariant-gaps l =
    map comment_bytes l.detached.items
    ++ flat_map (λ g. (comments_in l.text g).detached) (drop l.gap-index l.gaps)
    ≡ flat_map (λ g. (comments_in l.text g).detached) l.gaps
