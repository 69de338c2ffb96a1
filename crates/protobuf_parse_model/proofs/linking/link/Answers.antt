use Rattle.protobuf_parse_model.proofs.Links.{links, links_listed}
use Rattle.protobuf_parse_model.proofs.linking.link.Goals as goal

pub returns-then-len-seen : goal.returns-then-len-seen
returns-then-len-seen c = λ files tells.
    links_listed c.args.seen.now files tells c.check_each_listed.result c.check_each_listed.ensures

pub returns : goal.returns
returns c = λ files tells.
    links c.args.seen.now files tells c.check_each_reached.result c.check_each_reached.ensures
