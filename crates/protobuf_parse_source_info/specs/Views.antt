-- `SourceCodeInfo`, without where it lies in memory.
use Rattle.std.specs.Prelude.{ℕ, List, map, option_map, Vec}
use Rattle.std.specs.Global.{Global}
use Rattle.std.specs.Borrow.{Bor}
use Rattle.protobuf_parse_syntax.specs.Trees.{OptionNameSyntax, option_name_syntax}
use Rattle.protobuf_parse_syntax.specs.declared.tree.option.ProtobufOptionName.{ProtobufOptionName}
use Rattle.protobuf_parse_source_info.specs.Info.{LocationSyntax}
use Rattle.protobuf_parse_source_info.specs.declared.info.Location.{Location}
use Rattle.protobuf_parse_source_info.specs.declared.info.SourceCodeInfo.{SourceCodeInfo}

-- the bytes of a comment
abbrev pub comment_bytes : Vec ℕ Global → List ℕ
comment_bytes v = v.items

-- the name of an option in the tree
abbrev pub name_seen : Bor ProtobufOptionName → OptionNameSyntax
name_seen n = option_name_syntax n.now

-- a location
abbrev pub location_view : Location → LocationSyntax
location_view l = record {
  path = l.path.items;
  span = l.span;
  leading = option_map comment_bytes l.leading_comments;
  trailing = option_map comment_bytes l.trailing_comments;
  detached = map comment_bytes l.leading_detached_comments.items;
  option = option_map name_seen l.option;
}

-- all of them
abbrev pub info_view : SourceCodeInfo → List LocationSyntax
info_view i = map location_view i.location.items
