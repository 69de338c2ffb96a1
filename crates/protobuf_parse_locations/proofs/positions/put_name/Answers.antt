use Rattle.std.proofs.Common.{◌∙◌, ap, sym}
use Rattle.std.specs.Option.{option_copied}
use Rattle.protobuf_parse_locations.proofs.Putting.{name_put}
use Rattle.protobuf_parse_locations.proofs.positions.put_name.Goals as goal

pub returns-in_ok-insert-in-None : goal.returns-in_ok-insert-in-None
returns-in_ok-insert-in-None c =
    name_put c.args.positions.now c.insert.new.self c.in_ok-from_str-in-None.field-0 _ c.args.at
    c.in_ok-from_str-in-None.ensures.ok
    (sym (ap option_copied (sym c.in-None.is) ∙ c.get.ensures.value))
    c.in_ok-insert-in-None.ensures.updates
