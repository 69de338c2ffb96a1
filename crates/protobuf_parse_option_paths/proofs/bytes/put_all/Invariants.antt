use Rattle.std.proofs.Common.{◌≡◌, ◌++◌, map, take, flat_map}
use Rattle.protobuf_parse_source_info.specs.Views.{comment_bytes}
use Rattle.protobuf_parse_option_paths.specs.Bytes.{field}
use Rattle.protobuf_parse_option_paths.proofs.bytes.put_all.Given as goal

abbrev pub invariant-each : goal.invariant-each
invariant-each l = l.out.items
    ≡ l.fn.out.items
    ++ flat_map (field l.number) (map comment_bytes (take l.comment-index l.comments))
