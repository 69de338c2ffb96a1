use Rattle.std.proofs.Common.{◌≡◌, drop, map}
use Rattle.protobuf_parse_model.specs.Descriptors.{file_view}
use Rattle.protobuf_parse_decode.specs.Views.{fields_view}
use Rattle.protobuf_parse_merged.specs.Occurrences as spec
use Rattle.protobuf_parse_merged.specs.Inside.{declared_view}
use Rattle.protobuf_parse_merged.proofs.strays.holds_undeclared.Given as goal

abbrev pub invariant-fields : goal.invariant-fields
invariant-fields l =
    spec.holds_undeclared (map file_view l.index) (declared_view l.declared) 2
    (fields_view (drop l.field-index l.fields))
    ≡ spec.holds_undeclared (map file_view l.index) (declared_view l.declared) 2
    (fields_view l.fields)
