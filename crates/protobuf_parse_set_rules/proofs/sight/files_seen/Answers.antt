use Rattle.protobuf_parse_set_rules.specs.Sights.{sees_file}
use Rattle.protobuf_parse_set_rules.specs.Held.{known_view}
use Rattle.protobuf_parse_set_rules.proofs.Ways.{kept, smaller}
use Rattle.protobuf_parse_set_rules.proofs.sight.files_seen.Goals as goal

pub open-smaller : goal.open-smaller
open-smaller c =
    smaller c.open.open.keys c.pop_last.new.self.keys c.add_each-in-Some.new.open.keys
    c.publics_at.result.now c.in-Some.last c.in-Some.ensures.removal c.in-Some.ensures.all_below
    c.publics_at.ensures.below c.in_ok-add_each-2.ensures

pub open-preserved : goal.open-preserved
open-preserved c = λ to.
    let publics = (known_view c.args.known.now).publics in
    kept publics c.args.known.now.back to c.open.open.keys c.pop_last.new.self.keys
    c.add_each-in-Some.new.open.keys c.publics_at.result.now c.open.seen.keys
    c.insert-in-Some.new.self.keys c.in-Some.last
    (sees_file publics c.args.own c.args.imports.now to) c.in-Some.ensures.removal
    c.publics_at.ensures.is c.in_ok-add_each-2.ensures c.in_ok-insert-2.ensures.keys
    (c.open.invariant to)
