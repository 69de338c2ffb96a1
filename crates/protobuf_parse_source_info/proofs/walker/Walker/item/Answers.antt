use Rattle.protobuf_parse_source_info.specs.Parts.{item}
use Rattle.protobuf_parse_source_info.proofs.walker.Walker.item.Goals as goal

pub returns-then-is_field : goal.returns-then-is_field
unfolding item
returns-then-is_field c = rw c.if-is_field.true c.field_item.ensures

pub returns-else-is_field : goal.returns-else-is_field
unfolding item
returns-else-is_field c = rw c.if-is_field.false c.option_item.ensures
