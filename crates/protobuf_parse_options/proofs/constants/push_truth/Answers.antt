use Rattle.std.proofs.Common.{subst, sym}
use Rattle.std.specs.Prelude.{nat_abs}
use Rattle.protobuf_parse_model.specs.Descriptors.{field_view}
use Rattle.protobuf_parse_options.specs.CustomOptions.{item_of}
use Rattle.protobuf_parse_options.specs.Given.{AreFit}
use Rattle.protobuf_parse_options.proofs.ItemBytes.{truth_seen}
use Rattle.protobuf_parse_options.proofs.Writable.{truth_fit}
use Rattle.protobuf_parse_options.proofs.constants.push_truth.Goals as goal

pub push_item-requires : goal.push_item-requires
push_item-requires c =
    let f = field_view c.args.field.now in
    subst (λ v. AreFit (item_of f v)) (sym (truth_seen c.args.truth))
    (truth_fit f.name f.type_ (nat_abs f.number) c.args.truth c.in_ok-check_truth.ensures.0)
