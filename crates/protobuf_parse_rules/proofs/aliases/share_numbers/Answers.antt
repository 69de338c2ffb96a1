use Rattle.std.proofs.Common.{map, take, sym, ◌∙◌}
use Rattle.std.specs.List.{list_any}
use Rattle.protobuf_parse_model.specs.Descriptors.{enum_value_view}
use Rattle.protobuf_parse_rules.specs.Enums.{is_shared}
use Rattle.protobuf_parse_rules.proofs.Lists.{any_one_more, found_now, found_stays}
use Rattle.protobuf_parse_rules.proofs.aliases.share_numbers.Goals as goal
use Rattle.protobuf_parse_rules.proofs.aliases.share_numbers.Goals.{then-is_shared, else-is_shared}

pub values-preserved : goal.values-preserved
values-preserved c = λ all are.
    let values = c.args.values.now in
    let i = c.values.value-index in
    let value = c.value-item.result in
    let before = list_any (is_shared all) (map enum_value_view (take i values)) in
    let this = is_shared all (enum_value_view value) in
    let more = sym (any_one_more (is_shared all) enum_value_view values i value
    c.values-test.true c.value-item.is) in
    elim c.if-is_shared.branch [
      | then-is_shared w ↦
          found_now c.if-is_shared.shared c.is_shared.result before this
          (w.shared-is ∙ w.if-is_shared.true) w.if-is_shared.true (c.is_shared.ensures all are)
          ∙ more
      | else-is_shared w ↦
          found_stays c.if-is_shared.shared c.values.shared c.is_shared.result before this
          w.shared-is (c.values.invariant all are) w.if-is_shared.false
          (c.is_shared.ensures all are) ∙ more
    ]
