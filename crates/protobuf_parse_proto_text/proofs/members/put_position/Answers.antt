use Rattle.std.proofs.Common.{◌∙◌, ap, refl, sym}
use Rattle.std.specs.BTreeMap.{get_by_text}
use Rattle.std.specs.Option.{option_copied}
use Rattle.protobuf_parse_index.proofs.Putting.{position_put}
use Rattle.protobuf_parse_proto_text.proofs.members.put_position.Goals as goal

pub returns-in_ok-insert-in-None : goal.returns-in_ok-insert-in-None
returns-in_ok-insert-in-None c =
    position_put c.args.positions.now c.insert.new.self c.args.name _ c.args.at refl
    (sym (ap option_copied (sym c.in-None.is) ∙ c.get.ensures.value
    ∙ ap (get_by_text c.args.positions.now) c.as_str.ensures.value))
    c.in_ok-insert-in-None.ensures.updates
