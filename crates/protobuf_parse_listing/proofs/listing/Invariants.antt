use Rattle.std.proofs.Common.{◌≡◌, map, take, flat_map}
use Rattle.std.specs.Prelude.{string_bytes}
use Rattle.protobuf_parse_model.specs.Descriptors.{file_view}
use Rattle.protobuf_parse_listing.specs.Listing.{file_lines}
use Rattle.protobuf_parse_listing.proofs.listing.Given as goal

abbrev pub invariant-loop-file : goal.invariant-loop-file
invariant-loop-file l = string_bytes l.text
    ≡ flat_map file_lines (map file_view (take l.file-index l.files))
