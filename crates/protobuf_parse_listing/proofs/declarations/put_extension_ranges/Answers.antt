use Rattle.std.proofs.Common.{sym, append-nil}
use Rattle.std.specs.Prelude.{codes}
use Rattle.protobuf_parse_model.specs.Descriptors.{extension_range_view}
use Rattle.protobuf_parse_listing.specs.Listing.{range_line}
use Rattle.protobuf_parse_listing.proofs.Appending.{appended_all}
use Rattle.protobuf_parse_listing.proofs.declarations.put_extension_ranges.Goals as goal

pub loop-range-init : goal.loop-range-init
loop-range-init c = sym (append-nil _)

pub returns : goal.returns
returns c =
    appended_all (range_line c.args.level (codes "extension_range ")) extension_range_view _ _ _ _
    c.loop-range-test.false c.loop-range.invariant
