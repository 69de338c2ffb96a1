use Rattle.std.proofs.Common.{sym, append-nil}
use Rattle.protobuf_parse_proto_text.specs.Items.{setting_items}
use Rattle.protobuf_parse_listing.specs.Settings.{setting_view}
use Rattle.protobuf_parse_proto_text.proofs.Growing.{grown_all}
use Rattle.protobuf_parse_proto_text.proofs.settings.add_settings.Goals as goal

pub loop-setting-init : goal.loop-setting-init
loop-setting-init c = sym (append-nil _)

pub returns : goal.returns
returns c =
    grown_all setting_items setting_view _ _ _ _ c.loop-setting-test.false
    c.loop-setting.invariant
