use Rattle.std.proofs.Common.{◌≡◌, Some, sym, subst, ◌∙◌, ◌++◌, map}
use Rattle.protobuf_parse_model.specs.Descriptors.{field_view}
use Rattle.protobuf_parse_wire.specs.Reading.{ReaderGives, FieldsByNumber, WireRead, by_number}
use Rattle.protobuf_parse_wire.specs.Indexed.{entered_by, numbered}
use Rattle.protobuf_parse_wire.proofs.Distinct.{seen, entered_one, one_element}
use Rattle.protobuf_parse_wire.proofs.reader.numbers.numbers_of.Goals as goal

pub returns-in-len1 : goal.returns-in-len1
returns-in-len1 c =
    let index = c.args.index.now in
    let alone = one_element c.values.result.now c.message-item.result c.in-len1.len_at_least
    c.in-len1.len_below c.message-item.is in
    let by_index : entered_by index (Some c.args.name.now)
    ≡ by_number (map field_view c.deref.result.now ++ map seen c.values-in-len1.result.now) =
    entered_one index c.args.name.now c.message-item.result c.deref.result.now
    c.values-in-len1.result.now (sym c.values.ensures ∙ alone) c.deref.ensures.value
    c.values-in-len1.ensures in
    subst (λ (read : WireRead FieldsByNumber). ReaderGives numbered c.by_number.result read)
    (sym by_index) c.by_number.ensures
