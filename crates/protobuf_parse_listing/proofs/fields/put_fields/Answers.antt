use Rattle.std.proofs.Common.{sym, append-nil}
use Rattle.protobuf_parse_model.specs.Descriptors.{field_view}
use Rattle.protobuf_parse_listing.specs.Listing.{field_lines}
use Rattle.protobuf_parse_listing.proofs.Appending.{appended_all, appended_next}
use Rattle.protobuf_parse_listing.proofs.fields.put_fields.Goals as goal

pub loop-field-init : goal.loop-field-init
loop-field-init c = sym (append-nil _)

pub loop-field-preserved : goal.loop-field-preserved
loop-field-preserved c =
    appended_next (field_lines c.args.level) field_view _ _ _ _ _ _ c.loop-field-test.true
    c.field-item.is c.loop-field.invariant c.in_ok-put_field.ensures

pub returns : goal.returns
returns c =
    appended_all (field_lines c.args.level) field_view _ _ _ _ c.loop-field-test.false
    c.loop-field.invariant
