use Rattle.std.proofs.Common.{ℕ, List, ◌++◌, map, flat_map, ap, ◌∙◌, Vec}
use Rattle.std.specs.Global.{Global}
use Rattle.protobuf_parse_source_info.specs.Views.{comment_bytes}
use Rattle.protobuf_parse_wire.specs.Encoded.{varint_of}
use Rattle.protobuf_parse_option_paths.specs.Bytes.{field, field_if_any}
use Rattle.protobuf_parse_option_paths.proofs.Joining.{joined}
use Rattle.protobuf_parse_option_paths.proofs.bytes.location_bytes.Goals as goal

pub returns : goal.returns
returns c =
    joined _ _ _ _ _ c.put_packed.new.out.items c.put_packed-2.new.out.items
    c.put_if_some.new.out.items c.put_if_some-2.new.out.items c.put_all.new.out.items
    (c.in_ok-put_packed.ensures
    ∙ ap (λ (z : List ℕ). z ++ field_if_any 1 c.deref-2.result.now) c.new-out.ensures.items
    ∙ ap (field_if_any 1) (c.deref-2.ensures.value ∙ c.in_ok-path_numbers.ensures
    ∙ ap (flat_map varint_of) c.deref.ensures.value))
    (c.in_ok-put_packed-2.ensures
    ∙ ap (λ (z : List ℕ). c.put_packed.new.out.items ++ field_if_any 2 z)
    (c.deref-3.ensures.value ∙ c.in_ok-span_numbers.ensures))
    c.in_ok-put_if_some.ensures
    c.in_ok-put_if_some-2.ensures
    (c.in_ok-put_all.ensures
    ∙ ap (λ (z : List (Vec ℕ Global)). c.put_if_some-2.new.out.items
    ++ flat_map (field 6) (map comment_bytes z)) c.deref-4.ensures.value)
