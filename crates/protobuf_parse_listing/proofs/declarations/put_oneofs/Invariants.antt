use Rattle.std.proofs.Common.{◌≡◌, ◌++◌, map, take, flat_map}
use Rattle.std.specs.Prelude.{string_bytes}
use Rattle.protobuf_parse_model.specs.Descriptors.{oneof_view}
use Rattle.protobuf_parse_listing.specs.Listing.{oneof_lines}
use Rattle.protobuf_parse_listing.proofs.declarations.put_oneofs.Given as goal

abbrev pub invariant-loop-oneof : goal.invariant-loop-oneof
invariant-loop-oneof l =
    string_bytes l.text ≡ string_bytes l.fn.text
    ++ flat_map (oneof_lines l.level) (map oneof_view (take l.oneof-index l.oneofs))
