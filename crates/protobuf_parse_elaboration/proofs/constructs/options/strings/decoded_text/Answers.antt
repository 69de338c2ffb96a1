use Rattle.std.proofs.Common.{sym}
use Rattle.protobuf_parse_syntax.specs.Trees.{pieces_of}
use Rattle.protobuf_parse_elaboration.proofs.Decodings.{text_said, no_text_said}
use Rattle.protobuf_parse_elaboration.proofs.constructs.options.strings.decoded_text.Goals as goal

pub returns-in-Ok : goal.returns-in-Ok
returns-in-Ok c = sym (text_said (pieces_of c.args.string.now) c.in-Ok.text c.in-Ok.ensures.text)

pub returns-in_ok-check_memory-in-Err : goal.returns-in_ok-check_memory-in-Err
returns-in_ok-check_memory-in-Err c =
    sym (no_text_said (pieces_of c.args.string.now) c.in-Err.error c.in-Err.ensures.refused
    c.in_ok-check_memory-in-Err.ensures)
