use Rattle.std.proofs.Common.{◌≡◌, drop, map}
use Rattle.protobuf_parse_merged.specs.Maps as spec
use Rattle.protobuf_parse_merged.specs.Merged.{fields_of}
use Rattle.protobuf_parse_merged.specs.Inside.{field_view}
use Rattle.protobuf_parse_merged.proofs.maps.key_in.Given as goal

abbrev pub invariant-fields : goal.invariant-fields
invariant-fields l =
    spec.key_in (fields_of (map field_view (drop l.field-index l.fields)))
    ≡ spec.key_in (fields_of (map field_view l.fields))
