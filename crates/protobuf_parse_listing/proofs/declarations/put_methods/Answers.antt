use Rattle.std.proofs.Common.{sym, append-nil}
use Rattle.protobuf_parse_model.specs.Descriptors.{method_view}
use Rattle.protobuf_parse_listing.specs.Listing.{method_lines}
use Rattle.protobuf_parse_listing.proofs.Appending.{appended_all, appended_next}
use Rattle.protobuf_parse_listing.proofs.declarations.put_methods.Goals as goal

pub loop-method-init : goal.loop-method-init
loop-method-init c = sym (append-nil _)

pub loop-method-preserved : goal.loop-method-preserved
loop-method-preserved c =
    appended_next (method_lines c.args.level) method_view _ _ _ _ _ _ c.loop-method-test.true
    c.method-item.is c.loop-method.invariant c.in_ok-put_method.ensures

pub returns : goal.returns
returns c =
    appended_all (method_lines c.args.level) method_view _ _ _ _ c.loop-method-test.false
    c.loop-method.invariant
