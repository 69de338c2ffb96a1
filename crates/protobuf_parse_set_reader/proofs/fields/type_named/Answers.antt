use Rattle.std.proofs.Common.{ap, ◌∙◌}
use Rattle.protobuf_parse_set_reader.specs.Bodies.{types_view}
use Rattle.protobuf_parse_set_reader.proofs.fields.type_named.Goals as goal

pub returns-in-Some : goal.returns-in-Some
returns-in-Some c = rw c.in-Some.is
    (c.copied.ensures ∙ c.get.ensures.value
    ∙ ap (types_view c.args.types.now) c.as_str.ensures.value)
