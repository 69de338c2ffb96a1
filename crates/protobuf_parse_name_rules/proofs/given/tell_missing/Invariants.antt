use Rattle.std.proofs.Common.{◌≡◌, ◌++◌, flat_map, map, take}
use Rattle.protobuf_parse_model.specs.Descriptors.{field_view}
use Rattle.protobuf_parse_text_rules.specs.Views.{told}
use Rattle.protobuf_parse_name_rules.specs.Constants.{missing_breaches}
use Rattle.protobuf_parse_name_rules.specs.InnerViews.{has_number}
use Rattle.protobuf_parse_name_rules.proofs.given.tell_missing.Given as goal

abbrev pub invariant-fields : goal.invariant-fields
invariant-fields l = told l.found ≡ told l.fn.found
    ++ flat_map (missing_breaches l.place (has_number l.given))
    (map field_view (take l.field-index l.fields))
