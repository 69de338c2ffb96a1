use Rattle.std.proofs.Common.{◌∙◌, ap}
use Rattle.std.specs.Prelude.{nat_lt}
use Rattle.protobuf_parse_model.specs.TableParts.{times}
use Rattle.protobuf_parse_model.proofs.Links.{times_over}
use Rattle.protobuf_parse_model.proofs.linking.is_declared_twice.Goals as goal

pub returns : goal.returns
returns c files tells =
    let seen = c.args.seen.now in
    ap (nat_lt 1) (c.times.ensures
    ∙ ap (times c.args.extension seen.reach.now) c.declarations_of.ensures
    ∙ times_over seen.declarations.now files tells seen.reach.now seen.reach_ascends
    c.args.extension c.args.name.now)
