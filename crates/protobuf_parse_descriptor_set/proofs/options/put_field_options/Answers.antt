use Rattle.protobuf_parse_descriptor_set.specs.OptionItems.{field_option_items}
use Rattle.protobuf_parse_descriptor_set.proofs.Joining.{joined, on_ok_then}
use Rattle.protobuf_parse_descriptor_set.proofs.options.put_field_options.Goals as goal

pub returns : goal.returns
unfolding field_option_items
returns c =
    let to1 = joined c.in_ok-put_ctype.ensures c.in_ok-put_flag_if_some.ensures in
    let to2 = joined to1 c.in_ok-put_flag_if_some-2.ensures in
    let to3 = joined to2 c.in_ok-put_flag_if_some-3.ensures in
    let to4 = joined to3 c.in_ok-put_jstype.ensures in
    let to5 = joined to4 c.in_ok-put_flag_if_some-4.ensures in
    let to6 = joined to5 c.in_ok-put_flag_if_some-5.ensures in
    on_ok_then c.put_flag_if_some-6.result (λ last. joined to6 last) c.put_flag_if_some-6.ensures
