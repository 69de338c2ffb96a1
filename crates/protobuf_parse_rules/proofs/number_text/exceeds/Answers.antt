use Rattle.protobuf_parse_rules.proofs.NumberReading.{too_large}
use Rattle.protobuf_parse_rules.proofs.number_text.exceeds.Goals as goal

pub returns-in-Err : goal.returns-in-Err
returns-in-Err c = too_large c.args.digits.now c.in-Err.field-0 c.args.most c.ranges.most.fits
    c.requires c.in-Err.ensures.value.0
