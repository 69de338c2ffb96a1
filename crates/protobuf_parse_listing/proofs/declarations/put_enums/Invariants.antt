use Rattle.std.proofs.Common.{◌≡◌, ◌++◌, map, take, flat_map}
use Rattle.std.specs.Prelude.{string_bytes}
use Rattle.protobuf_parse_model.specs.Descriptors.{enum_view}
use Rattle.protobuf_parse_listing.specs.Listing.{enum_lines}
use Rattle.protobuf_parse_listing.proofs.declarations.put_enums.Given as goal

abbrev pub invariant-loop-each : goal.invariant-loop-each
invariant-loop-each l =
    string_bytes l.text ≡ string_bytes l.fn.text
    ++ flat_map (enum_lines l.level) (map enum_view (take l.each-index l.enums))
