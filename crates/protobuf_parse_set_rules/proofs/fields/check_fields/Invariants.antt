use Rattle.std.proofs.Common.{◌≡◌, ◌++◌, flat_map, map, take}
use Rattle.protobuf_parse_model.specs.Descriptors.{field_view}
use Rattle.protobuf_parse_set_rules.specs.Rules.{field_breaches}
use Rattle.protobuf_parse_set_rules.specs.Held.{sight_view}
use Rattle.protobuf_parse_set_rules.specs.Views.{told}
use Rattle.protobuf_parse_set_rules.proofs.fields.check_fields.Given as goal

abbrev pub invariant-fields : goal.invariant-fields
invariant-fields l = told l.found ≡ told l.fn.found
    ++ flat_map (field_breaches (sight_view l.sight) l.file l.scope l.oneofs)
    (map field_view (take l.field-index l.fields))
