use Rattle.std.proofs.Common.{◌∙◌, ap, sym}
use Rattle.std.specs.Option.{option_copied}
use Rattle.protobuf_parse_set_rules.proofs.Firsts.{put_in}
use Rattle.protobuf_parse_set_rules.proofs.positions.put.Goals as goal

pub returns-in_ok-insert-in-None : goal.returns-in_ok-insert-in-None
returns-in_ok-insert-in-None c =
    put_in c.args.positions.now c.insert.new.self c.args.text.now c.args.position
    (sym (ap option_copied (sym c.in-None.is) ∙ c.get.ensures.value))
    c.in_ok-insert-in-None.ensures.updates
