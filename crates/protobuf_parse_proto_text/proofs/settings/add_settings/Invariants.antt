use Rattle.std.proofs.Common.{◌≡◌, ◌++◌, map, take, flat_map}
use Rattle.std.specs.Prelude.{string_bytes}
use Rattle.protobuf_parse_proto_text.specs.Items.{setting_items}
use Rattle.protobuf_parse_listing.specs.Settings.{setting_view}
use Rattle.protobuf_parse_proto_text.proofs.settings.add_settings.Given as goal

abbrev pub invariant-loop-setting : goal.invariant-loop-setting
invariant-loop-setting l =
    map string_bytes l.items.items ≡ map string_bytes l.fn.items.items
    ++ flat_map setting_items (map setting_view (take l.setting-index l.settings))
