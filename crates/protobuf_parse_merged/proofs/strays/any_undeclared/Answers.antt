use Rattle.std.proofs.Common.{map, sym, ◌∙◌, true, false}
use Rattle.protobuf_parse_model.specs.Descriptors.{file_view}
use Rattle.protobuf_parse_merged.specs.Inside.{declared_view}
use Rattle.protobuf_parse_merged.proofs.Firsts.{next_any}
use Rattle.protobuf_parse_merged.proofs.strays.any_undeclared.Goals as goal

pub values-preserved : goal.values-preserved
values-preserved c =
    sym (next_any (map file_view c.args.index.now) (declared_view c.args.declared) c.args.values.now
    c.values.value-index c.value-item.result false c.values-test.true c.value-item.is
    c.if-is_undeclared.ensures)
    ∙ c.values.invariant

pub returns-then-is_undeclared : goal.returns-then-is_undeclared
returns-then-is_undeclared c =
    sym (next_any (map file_view c.args.index.now) (declared_view c.args.declared) c.args.values.now
    c.values.value-index c.value-item.result true c.values-test.true c.value-item.is
    c.if-is_undeclared.ensures)
    ∙ c.values.invariant
