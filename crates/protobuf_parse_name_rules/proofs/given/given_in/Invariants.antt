use Rattle.std.proofs.Common.{◌≡◌, flat_map, map, take}
use Rattle.protobuf_parse_syntax.specs.InnerViews.{constant_field_syntax}
use Rattle.protobuf_parse_name_rules.specs.InnerViews.{given_of, given_view, viewpoint_view}
use Rattle.protobuf_parse_name_rules.proofs.given.given_in.Given as goal

abbrev pub invariant-fields : goal.invariant-fields
invariant-fields l = map given_view l.given.items
    ≡ flat_map (given_of (viewpoint_view l.at) l.message)
    (map constant_field_syntax (take l.field-index l.fields))
