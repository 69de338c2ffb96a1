-- What is left ascends from the last number, if all do.
use Rattle.std.proofs.Common.{◌≡◌, pos, drop, map}
use Rattle.protobuf_parse_model.specs.Descriptors.{field_view}
use Rattle.protobuf_parse_rules.specs.Ascending.{ascend_from}
use Rattle.protobuf_parse_rules.proofs.number_keys.ascend.Given as goal

abbrev pub invariant-fields : goal.invariant-fields
invariant-fields l = ascend_from l.last (map field_view (drop l.field-index l.fields))
    ≡ ascend_from (pos 0) (map field_view l.fields)
