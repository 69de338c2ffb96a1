use Rattle.std.proofs.Common.{subst, sym}
use Rattle.std.specs.Prelude.{nat_abs}
use Rattle.protobuf_parse_syntax.specs.Trees.{pieces_of}
use Rattle.protobuf_parse_model.specs.Descriptors.{field_view}
use Rattle.protobuf_parse_options.specs.CustomOptions.{item_of}
use Rattle.protobuf_parse_options.specs.Given.{AreFit, path_said}
use Rattle.protobuf_parse_options.proofs.ItemBytes.{bytes_seen}
use Rattle.protobuf_parse_options.proofs.Writable.{string_fit}
use Rattle.protobuf_parse_options.proofs.constants.push_string.Goals as goal

pub push_item-requires : goal.push_item-requires
push_item-requires c =
    let f = field_view c.args.field.now in
    let v = c.in_ok-bytes.bytes in
    subst (λ x. AreFit (item_of f x)) (sym (bytes_seen v))
    (string_fit (path_said c.args.option.now) f.name f.type_ (nat_abs f.number)
    (pieces_of c.args.string.now) v.items c.in_ok-bytes.ensures.0)
