use Rattle.std.proofs.Common.{sym, append-nil}
use Rattle.std.specs.Prelude.{string_bytes}
use Rattle.protobuf_parse.specs.Includes.{next_include}
use Rattle.protobuf_parse_listing.proofs.Appending.{appended_all, appended_next}
use Rattle.protobuf_parse.proofs.parser.includes.put_next_includes.Goals as goal

pub loop-include-init : goal.loop-include-init
loop-include-init c = sym (append-nil _)

pub loop-include-preserved : goal.loop-include-preserved
loop-include-preserved c =
    appended_next next_include string_bytes _ _ _ _ _ _ c.loop-include-test.true c.include-item.is
    c.loop-include.invariant (rw c.deref.ensures at c.in_ok-put_next_include.ensures)

pub returns : goal.returns
returns c =
    appended_all next_include string_bytes _ _ _ _ c.loop-include-test.false
    c.loop-include.invariant
