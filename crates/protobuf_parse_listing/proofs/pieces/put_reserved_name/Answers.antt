use Rattle.protobuf_parse_listing.specs.Listing.{quoted, reserved_name_line}
use Rattle.protobuf_parse_listing.proofs.Appending.{appended_line, on_ok_then}
use Rattle.protobuf_parse_listing.proofs.pieces.put_reserved_name.Goals as goal

pub returns : goal.returns
unfolding quoted reserved_name_line
returns c =
    on_ok_then c.end_line.result
    (appended_line _ _ _ _ c.in_ok-begin_line.ensures c.in_ok-end_quoted.ensures)
    c.end_line.ensures
