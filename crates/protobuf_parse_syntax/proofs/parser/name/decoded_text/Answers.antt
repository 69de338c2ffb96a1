use Rattle.std.proofs.Common.{string_bytes}
use Rattle.std.proofs.lemmas.Str.{IsUtf8-string_bytes}
use Rattle.protobuf_parse_lexer.specs.Tokens.{StandsFor}
use Rattle.protobuf_parse_lexer.specs.Decoder.{text_of}
use Rattle.protobuf_parse_lexer.specs.DecoderLaws.{text-to, text-from}
use Rattle.protobuf_parse_syntax.specs.Productions.{reserved_name}
use Rattle.protobuf_parse_syntax.specs.Trees.{pieces_of}
use Rattle.protobuf_parse_syntax.specs.Code.{left}
use Rattle.protobuf_parse_syntax.proofs.Strings.{says, fails_text}
use Rattle.protobuf_parse_syntax.proofs.parser.name.decoded_text.Goals as goal

pub returns-in-Ok : goal.returns-in-Ok
unfolding reserved_name
returns-in-Ok c =
    says StandsFor text_of text-to text-from (left c.args.tokens.now) (left c.string.new.tokens)
    (pieces_of c.in_ok-string.string) c.in_ok-string.ensures (string_bytes c.in-Ok.text)
    (c.in-Ok.ensures.text, IsUtf8-string_bytes c.in-Ok.text)

pub returns : goal.returns
returns c =
    rw c.no_text.ensures
    (fails_text (left c.args.tokens.now) (left c.string.new.tokens)
    (pieces_of c.in_ok-string.string) c.in-Err.error c.in_ok-string.ensures
    c.in-Err.ensures.refused)
