use Rattle.std.proofs.Common.{◌≡◌, map, drop}
use Rattle.protobuf_parse_model.specs.Descriptors.{method_view}
use Rattle.protobuf_parse_index.specs.Lookups.{method_with}
use Rattle.protobuf_parse_index.proofs.inside.method_with.Given as goal

abbrev pub invariant-methods : goal.invariant-methods
invariant-methods l = method_with l.name (map method_view l.methods)
    ≡ method_with l.name (map method_view (drop l.method-index l.methods))
