use Rattle.protobuf_parse_lexer.specs.Cut.{stream}
use Rattle.protobuf_parse_expected.proofs.Stopping.{reading-there}
use Rattle.protobuf_parse_expected.proofs.reading.read.Goals as goal

pub returns-in-Ok-tokenize : goal.returns-in-Ok-tokenize
returns-in-Ok-tokenize c = reading-there _ c.in-Err.error (stream c.in-Ok-tokenize.stream) _
    c.in-Ok-tokenize.ensures.reads c.in-Ok-tokenize.ensures.refuses c.in-Err.ensures.refused
    c.in_default.not-Memory c.reading_at.ensures
