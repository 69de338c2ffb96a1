use Rattle.std.proofs.Common.{sym}
use Rattle.protobuf_parse_syntax.specs.Trees.{pieces_of}
use Rattle.protobuf_parse_elaboration.proofs.Decodings.{bytes_said, no_bytes_said}
use Rattle.protobuf_parse_elaboration.proofs.constructs.options.strings.decoded_bytes.Goals as goal

pub returns-in-Ok : goal.returns-in-Ok
returns-in-Ok c =
    sym (bytes_said (pieces_of c.args.string.now) c.in-Ok.bytes.items c.in-Ok.ensures.bytes)

pub returns-in_ok-check_memory-in-Err : goal.returns-in_ok-check_memory-in-Err
returns-in_ok-check_memory-in-Err c =
    sym (no_bytes_said (pieces_of c.args.string.now) c.in-Err.error c.in-Err.ensures.refused
    c.in_ok-check_memory-in-Err.ensures)
