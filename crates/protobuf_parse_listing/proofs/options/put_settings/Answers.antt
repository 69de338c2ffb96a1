use Rattle.std.proofs.Common.{sym, append-nil}
use Rattle.protobuf_parse_listing.specs.Settings.{setting_view}
use Rattle.protobuf_parse_listing.specs.Listing.{setting_line}
use Rattle.protobuf_parse_listing.proofs.Appending.{appended_all}
use Rattle.protobuf_parse_listing.proofs.options.put_settings.Goals as goal

pub loop-setting-init : goal.loop-setting-init
loop-setting-init c = sym (append-nil _)

pub returns : goal.returns
returns c =
    appended_all (setting_line c.args.level) setting_view _ _ _ _ c.loop-setting-test.false
    c.loop-setting.invariant
