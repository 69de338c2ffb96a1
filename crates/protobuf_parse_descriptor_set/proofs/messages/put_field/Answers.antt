use Rattle.protobuf_parse_descriptor_set.specs.DescriptorItems.{field_items}
use Rattle.protobuf_parse_descriptor_set.proofs.Joining.{joined, on_ok_then}
use Rattle.protobuf_parse_descriptor_set.proofs.messages.put_field.Goals as goal

pub returns : goal.returns
unfolding field_items
returns c =
    let e0 = rw c.as_str.ensures at c.in_ok-put_text.ensures in
    let e9 = rw c.as_str-2.ensures at c.in_ok-put_text-2.ensures in
    let to1 = joined e0 c.in_ok-put_text_if_some.ensures in
    let to2 = joined to1 c.in_ok-put_int.ensures in
    let to3 = joined to2 c.in_ok-put_label.ensures in
    let to4 = joined to3 c.in_ok-put_type.ensures in
    let to5 = joined to4 c.in_ok-put_text_if_some-2.ensures in
    let to6 = joined to5 c.in_ok-put_text_if_some-3.ensures in
    let to7 = joined to6 c.in_ok-put_options_of_field.ensures in
    let to8 = joined to7 c.in_ok-put_int_if_some.ensures in
    let to9 = joined to8 e9 in
    on_ok_then c.put_flag_if.result (λ last. joined to9 last) c.put_flag_if.ensures
