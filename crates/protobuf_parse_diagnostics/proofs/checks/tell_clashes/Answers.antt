use Rattle.protobuf_parse_diagnostics.specs.Told.{clash_line}
use Rattle.protobuf_parse_diagnostics.proofs.Adding.{tells_another}
use Rattle.protobuf_parse_diagnostics.proofs.checks.tell_clashes.Goals as goal

pub loop-clash-preserved : goal.loop-clash-preserved
loop-clash-preserved g c =
    tells_another clash_line c.args.clashes.now c.loop-clash.clash-index c.clash-item.result
    c.args.told.now.items c.loop-clash.told.items c.push.new.self.items
    c.in_ok-clash_diagnostic.field-0 c.loop-clash-test.true c.clash-item.is
    c.loop-clash.invariant c.in_ok-clash_diagnostic.ensures c.in_ok-push.ensures.items
