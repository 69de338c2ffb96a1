use Rattle.std.proofs.Common.{◌≡◌, ◌++◌, map, take, flat_map}
use Rattle.std.specs.Prelude.{string_bytes}
use Rattle.protobuf_parse_listing.specs.Settings.{setting_view}
use Rattle.protobuf_parse_listing.specs.Listing.{setting_line}
use Rattle.protobuf_parse_listing.proofs.options.put_settings.Given as goal

abbrev pub invariant-loop-setting : goal.invariant-loop-setting
invariant-loop-setting l =
    string_bytes l.text ≡ string_bytes l.fn.text
    ++ flat_map (setting_line l.level) (map setting_view (take l.setting-index l.settings))
