-- Comments, without where they lie in memory.
use Rattle.std.specs.Prelude.{ℕ, List, map, option_map, Vec}
use Rattle.std.specs.Global.{Global}
use Rattle.protobuf_parse_comments.specs.Gaps.{Divided}
use Rattle.protobuf_parse_comments.specs.declared.divide.Comments.{Comments}

-- the bytes of a comment
abbrev pub comment_bytes : Vec ℕ Global → List ℕ
comment_bytes v = v.items

-- the comments of a gap
abbrev pub comments_view : Comments → Divided
comments_view c = record {
  trailing = option_map comment_bytes c.trailing;
  detached = map comment_bytes c.detached.items;
  leading = option_map comment_bytes c.leading;
}
