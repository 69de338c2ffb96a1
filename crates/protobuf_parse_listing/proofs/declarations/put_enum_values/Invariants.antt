use Rattle.std.proofs.Common.{◌≡◌, ◌++◌, map, take, flat_map}
use Rattle.std.specs.Prelude.{string_bytes}
use Rattle.protobuf_parse_model.specs.Descriptors.{enum_value_view}
use Rattle.protobuf_parse_listing.specs.Listing.{enum_value_lines}
use Rattle.protobuf_parse_listing.proofs.declarations.put_enum_values.Given as goal

abbrev pub invariant-loop-value : goal.invariant-loop-value
invariant-loop-value l =
    string_bytes l.text ≡ string_bytes l.fn.text
    ++ flat_map (enum_value_lines l.level) (map enum_value_view (take l.value-index l.values))
