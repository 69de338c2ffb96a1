use Rattle.std.proofs.Common.{sym, append-nil}
use Rattle.protobuf_parse_model.specs.Descriptors.{enum_value_view}
use Rattle.protobuf_parse_listing.specs.Listing.{enum_value_lines}
use Rattle.protobuf_parse_listing.proofs.Appending.{appended_all, appended_next}
use Rattle.protobuf_parse_listing.proofs.declarations.put_enum_values.Goals as goal

pub loop-value-init : goal.loop-value-init
loop-value-init c = sym (append-nil _)

pub loop-value-preserved : goal.loop-value-preserved
loop-value-preserved c =
    appended_next (enum_value_lines c.args.level) enum_value_view _ _ _ _ _ _ c.loop-value-test.true
    c.value-item.is c.loop-value.invariant c.in_ok-put_enum_value.ensures

pub returns : goal.returns
returns c =
    appended_all (enum_value_lines c.args.level) enum_value_view _ _ _ _ c.loop-value-test.false
    c.loop-value.invariant
