use Rattle.std.proofs.Common.{◌∙◌, ap, arith}
use Rattle.std.specs.Prelude.{unwrap_or}
use Rattle.std.proofs.lemmas.Grind.{common_steps}
use Rattle.protobuf_parse_locations.proofs.Putting.{part_put}
use Rattle.protobuf_parse_locations.proofs.positions.put_part.Goals as goal

pub returns : goal.returns
returns c = λ q n.
    part_put c.args.positions.now q c.args.before.now n c.args.number c.args.at
    c.or_insert-with_number.result.now c.put_path.new.positions c.new.result _
    c.new.ensures.empty (grind (arith, common_steps))
    (c.or_insert-with_number.ensures.value
    ∙ ap (λ o. unwrap_or o c.new.result) c.in_ok-positions.ensures.value)
    c.in_ok-put_path.ensures
