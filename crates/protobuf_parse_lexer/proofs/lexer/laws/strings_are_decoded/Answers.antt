-- The two directions of each law.
use Rattle.protobuf_parse_lexer.specs.DecoderLaws.{decode-from, decode-to, text-from, text-to}
use Rattle.protobuf_parse_lexer.proofs.lexer.laws.strings_are_decoded.Goals as goal

pub returns-clause-bytes : goal.returns-clause-bytes
returns-clause-bytes c = λ pieces bytes. (decode-to pieces bytes, decode-from pieces bytes)

pub returns-clause-text : goal.returns-clause-text
returns-clause-text c = λ pieces text. (text-to pieces text, text-from pieces text)
