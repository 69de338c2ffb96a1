use Rattle.protobuf_parse_descriptor_set.specs.OptionItems.{enum_option_items}
use Rattle.protobuf_parse_descriptor_set.proofs.Joining.{joined, on_ok_then}
use Rattle.protobuf_parse_descriptor_set.proofs.options.put_enum_options.Goals as goal

pub returns : goal.returns
unfolding enum_option_items
returns c =
    on_ok_then c.put_flag_if_some-2.result (λ last. joined c.in_ok-put_flag_if_some.ensures last)
    c.put_flag_if_some-2.ensures
