use Rattle.protobuf_parse_diagnostics.specs.Told.{meaning_line}
use Rattle.protobuf_parse_diagnostics.proofs.Adding.{tells_another}
use Rattle.protobuf_parse_diagnostics.proofs.meaning.tell_errors.Goals as goal

pub loop-error-preserved : goal.loop-error-preserved
loop-error-preserved c =
    tells_another (meaning_line c.args.origin.now) c.args.errors.now c.loop-error.error-index
    c.error-item.result c.args.told.now.items c.loop-error.told.items c.push.new.self.items
    c.in_ok-subject_diagnostic.field-0 c.loop-error-test.true c.error-item.is
    c.loop-error.invariant c.in_ok-subject_diagnostic.ensures c.in_ok-push.ensures.items
