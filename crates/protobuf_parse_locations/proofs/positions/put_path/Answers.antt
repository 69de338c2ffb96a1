use Rattle.std.proofs.Common.{◌∙◌, ap, sym}
use Rattle.std.specs.Option.{option_copied}
use Rattle.protobuf_parse_locations.proofs.Putting.{path_put}
use Rattle.protobuf_parse_locations.proofs.positions.put_path.Goals as goal

pub returns-in_ok-insert-in-None : goal.returns-in_ok-insert-in-None
returns-in_ok-insert-in-None c =
    path_put c.args.positions.now c.insert.new.self c.in_ok-from_slice-in-None.field-0 _ c.args.at
    c.in_ok-from_slice-in-None.ensures.items
    (sym (ap option_copied (sym c.in-None.is) ∙ c.get.ensures.value))
    c.in_ok-insert-in-None.ensures.updates
