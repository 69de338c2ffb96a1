use Rattle.std.proofs.Common.{[]}
use Rattle.protobuf_parse_model.specs.Descriptors.{file_view}
use Rattle.protobuf_parse_listing.specs.Listing.{file_lines}
use Rattle.protobuf_parse_listing.proofs.Appending.{appended_all, appended_next}
use Rattle.protobuf_parse_listing.proofs.listing.Goals as goal

pub loop-file-preserved : goal.loop-file-preserved
loop-file-preserved c =
    appended_next file_lines file_view _ _ _
    [] _ _ c.loop-file-test.true c.file-item.is c.loop-file.invariant c.in_ok-put_file.ensures

pub returns : goal.returns
returns c = appended_all file_lines file_view _ _ [] _ c.loop-file-test.false c.loop-file.invariant
