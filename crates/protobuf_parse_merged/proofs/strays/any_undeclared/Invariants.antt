use Rattle.std.proofs.Common.{◌≡◌, drop, map}
use Rattle.protobuf_parse_model.specs.Descriptors.{file_view}
use Rattle.protobuf_parse_decode.specs.Inside.{values_view}
use Rattle.protobuf_parse_merged.specs.Occurrences as spec
use Rattle.protobuf_parse_merged.specs.Inside.{declared_view}
use Rattle.protobuf_parse_merged.proofs.strays.any_undeclared.Given as goal

abbrev pub invariant-values : goal.invariant-values
invariant-values l =
    spec.any_undeclared (map file_view l.index) (declared_view l.declared)
    (values_view (drop l.value-index l.values))
    ≡ spec.any_undeclared (map file_view l.index) (declared_view l.declared) (values_view l.values)
