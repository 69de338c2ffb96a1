use Rattle.protobuf_parse_descriptor_set.specs.OptionItems.{message_option_items}
use Rattle.protobuf_parse_descriptor_set.proofs.Joining.{joined, on_ok_then}
use Rattle.protobuf_parse_descriptor_set.proofs.options.put_message_options.Goals as goal

pub returns : goal.returns
unfolding message_option_items
returns c =
    let to1 = joined c.in_ok-put_flag_if_some.ensures c.in_ok-put_flag_if_some-2.ensures in
    let to2 = joined to1 c.in_ok-put_flag_if_some-3.ensures in
    on_ok_then c.put_flag_if_some-4.result (λ last. joined to2 last) c.put_flag_if_some-4.ensures
