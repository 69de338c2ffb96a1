use Rattle.protobuf_parse_rules.proofs.Crowding.{counted_enough, counted_more}
use Rattle.protobuf_parse_rules.proofs.crowds.count.Goals as goal

pub returns-then-counts-slot-lt2-clause-counted : goal.returns-then-counts-slot-lt2-clause-counted
returns-then-counts-slot-lt2-clause-counted c = λ keys counted.
    counted_more c.args.spread keys c.args.counts.now c.args.key.now c.slot_among-slot.result
    c.slot_among-slot.ensures.is c.slot_among-slot.ensures.within c.if-counts-slot-lt2.true counted

pub returns-else-counts-slot-lt2-clause-counted : goal.returns-else-counts-slot-lt2-clause-counted
returns-else-counts-slot-lt2-clause-counted c = λ keys counted.
    counted_enough c.args.spread keys c.args.counts.now c.args.key.now c.slot_among-slot.result
    c.slot_among-slot.ensures.is c.slot_among-slot.ensures.within c.if-counts-slot-lt2.false
    counted
