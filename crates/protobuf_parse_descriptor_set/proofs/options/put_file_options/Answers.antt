use Rattle.protobuf_parse_descriptor_set.specs.OptionItems.{file_option_items}
use Rattle.protobuf_parse_descriptor_set.proofs.Joining.{joined, on_ok_then}
use Rattle.protobuf_parse_descriptor_set.proofs.options.put_file_options.Goals as goal

pub returns : goal.returns
unfolding file_option_items
returns c =
    let to1 = joined c.in_ok-put_text_if_some.ensures c.in_ok-put_text_if_some-2.ensures in
    let to2 = joined to1 c.in_ok-put_optimize_for.ensures in
    let to3 = joined to2 c.in_ok-put_flag_if_some.ensures in
    let to4 = joined to3 c.in_ok-put_text_if_some-3.ensures in
    let to5 = joined to4 c.in_ok-put_flag_if_some-2.ensures in
    let to6 = joined to5 c.in_ok-put_flag_if_some-3.ensures in
    let to7 = joined to6 c.in_ok-put_flag_if_some-4.ensures in
    let to8 = joined to7 c.in_ok-put_flag_if_some-5.ensures in
    let to9 = joined to8 c.in_ok-put_flag_if_some-6.ensures in
    let to10 = joined to9 c.in_ok-put_flag_if_some-7.ensures in
    let to11 = joined to10 c.in_ok-put_flag_if_some-8.ensures in
    let to12 = joined to11 c.in_ok-put_text_if_some-4.ensures in
    let to13 = joined to12 c.in_ok-put_text_if_some-5.ensures in
    let to14 = joined to13 c.in_ok-put_text_if_some-6.ensures in
    let to15 = joined to14 c.in_ok-put_text_if_some-7.ensures in
    let to16 = joined to15 c.in_ok-put_text_if_some-8.ensures in
    let to17 = joined to16 c.in_ok-put_text_if_some-9.ensures in
    on_ok_then c.put_text_if_some-10.result (λ last. joined to17 last) c.put_text_if_some-10.ensures
