-- The keys so far are those of the names so far.
use Rattle.std.proofs.Common.{◌≡◌, ◌++◌, map, take}
use Rattle.protobuf_parse_model.specs.Descriptors.{field_view}
use Rattle.protobuf_parse_rules.specs.Keys.{field_keys}
use Rattle.protobuf_parse_rules.proofs.name_keys.add_fields.Given as goal

abbrev pub invariant-fields : goal.invariant-fields
invariant-fields l = l.keys.items
    ≡ l.fn.keys.items ++ field_keys l.inside (map field_view (take l.field-index l.fields))
