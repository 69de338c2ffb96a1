use Rattle.std.proofs.Common.{ap, sym, ◌∙◌}
use Rattle.std.specs.BTreeMap.{get_by_text}
use Rattle.std.specs.Option.{option_copied}
use Rattle.protobuf_parse_set_reader.proofs.Naming.{put_in}
use Rattle.protobuf_parse_set_reader.proofs.type_names.put.Goals as goal

pub returns-in_ok-insert-in-None : goal.returns-in_ok-insert-in-None
returns-in_ok-insert-in-None c =
    put_in c.args.types.now c.insert.new.self c.in_ok-from_str-in-None.field-0 c.args.name.now
    (c.in_ok-from_str-in-None.ensures.ok ∙ c.as_str-in-None.ensures.value)
    (ap (get_by_text c.args.types.now) (sym c.as_str.ensures.value)
    ∙ sym (ap option_copied (sym c.in-None.is) ∙ c.get.ensures.value))
    c.in_ok-insert-in-None.ensures.updates
