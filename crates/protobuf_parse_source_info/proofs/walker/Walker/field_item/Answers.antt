use Rattle.std.proofs.Common.{sym}
use Rattle.protobuf_parse_source_info.specs.Parts.{field_item}
use Rattle.protobuf_parse_source_info.proofs.walker.Walker.field_item.Goals as goal

pub returns-then-is_word : goal.returns-then-is_word
unfolding field_item
returns-then-is_word c = rw (sym c.if-is_word.ensures) c.default_item.ensures

pub returns-then-is_word-2 : goal.returns-then-is_word-2
unfolding field_item
returns-then-is_word-2 c =
    rw (sym c.if-is_word.ensures, sym c.if-is_word-2.ensures) c.json_name_item.ensures

pub returns : goal.returns
unfolding field_item
returns c =
    rw (sym c.if-is_word.ensures, sym c.if-is_word-2.ensures) c.option_item.ensures
