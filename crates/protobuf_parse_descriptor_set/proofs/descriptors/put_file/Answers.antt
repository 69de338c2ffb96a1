use Rattle.protobuf_parse_descriptor_set.specs.DescriptorItems.{file_with}
use Rattle.protobuf_parse_descriptor_set.proofs.Joining.{joined, on_ok_then}
use Rattle.protobuf_parse_descriptor_set.proofs.descriptors.put_file.Goals as goal

pub returns : goal.returns
unfolding file_with
returns c =
    let e2 = rw c.deref.ensures.value at c.in_ok-put_texts.ensures in
    let e3 = rw c.deref-2.ensures.value at c.in_ok-put_messages.ensures in
    let e4 = rw c.deref-3.ensures.value at c.in_ok-put_parts.ensures in
    let e5 = rw c.deref-4.ensures.value at c.in_ok-put_parts-2.ensures in
    let e6 = rw c.deref-5.ensures.value at c.in_ok-put_parts-3.ensures in
    let e9 = rw c.deref-6.ensures.value at c.in_ok-put_ints.ensures in
    let e10 = rw c.deref-7.ensures.value at c.in_ok-put_ints-2.ensures in
    let to1 = joined c.in_ok-put_text_if_some.ensures c.in_ok-put_text_if_some-2.ensures in
    let to2 = joined to1 e2 in
    let to3 = joined to2 e3 in
    let to4 = joined to3 e4 in
    let to5 = joined to4 e5 in
    let to6 = joined to5 e6 in
    let to7 = joined to6 c.in_ok-put_options.ensures in
    let to8 = joined to7 c.in_ok-put_whole_if_some.ensures in
    let to9 = joined to8 e9 in
    let to10 = joined to9 e10 in
    on_ok_then c.put_syntax.result (λ last. joined to10 last) c.put_syntax.ensures
