use Rattle.std.proofs.Common.{◌≡◌, ◌++◌, map, take}
use Rattle.std.specs.Prelude.{string_bytes}
use Rattle.protobuf_parse_model.specs.Descriptors.{file_view}
use Rattle.protobuf_parse_index.specs.Options.{named_option_view}
use Rattle.protobuf_parse_proto_text.specs.Items.{named_item}
use Rattle.protobuf_parse_proto_text.proofs.items.with_named.Given as goal

abbrev pub invariant-options : goal.invariant-options
invariant-options l =
    map string_bytes l.items.items ≡ map string_bytes l.fn.built_in.items
    ++ map (named_item (map file_view l.index))
    (map named_option_view (take l.option-index l.options))
