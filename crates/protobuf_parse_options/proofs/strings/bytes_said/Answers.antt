use Rattle.std.proofs.Common.{sym}
use Rattle.protobuf_parse_syntax.specs.Trees.{pieces_of}
use Rattle.protobuf_parse_options.specs.Given.{path_said}
use Rattle.protobuf_parse_options.proofs.Sayings.{bytes_are, bytes_missing}
use Rattle.protobuf_parse_options.proofs.strings.bytes_said.Goals as goal

pub returns-in-Some : goal.returns-in-Some
returns-in-Some c =
    bytes_are (path_said c.args.option.now) (pieces_of c.args.string.now) c.in-Some.bytes.items
    (sym (rw c.in-Some.is at c.in_ok-bytes.ensures))

pub returns-in-None : goal.returns-in-None
returns-in-None c =
    bytes_missing (path_said c.args.option.now) (pieces_of c.args.string.now) _
    (sym (rw c.in-None.is at c.in_ok-bytes.ensures)) c.says_nothing.ensures
