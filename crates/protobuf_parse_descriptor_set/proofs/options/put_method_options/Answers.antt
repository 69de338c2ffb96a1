use Rattle.protobuf_parse_descriptor_set.specs.OptionItems.{method_option_items}
use Rattle.protobuf_parse_descriptor_set.proofs.Joining.{joined, on_ok_then}
use Rattle.protobuf_parse_descriptor_set.proofs.options.put_method_options.Goals as goal

pub returns : goal.returns
unfolding method_option_items
returns c =
    on_ok_then c.put_idempotency_level.result (λ last. joined c.in_ok-put_flag_if_some.ensures last)
    c.put_idempotency_level.ensures
