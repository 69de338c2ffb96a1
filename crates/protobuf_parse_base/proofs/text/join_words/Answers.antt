-- What the bytes of a name are spelled as is the text that its characters are spelled as.
use Rattle.std.specs.Prelude.{encode_utf8_all}
use Rattle.std.proofs.Common.{sym, ap, subst, ◌∙◌}
use Rattle.std.specs.Str.{chars, IsUtf8}
use Rattle.protobuf_parse_base.specs.Cases.{joined_words}
use Rattle.protobuf_parse_base.proofs.CaseTexts.{joined_words-text, IsUtf8-joined_words}
use Rattle.protobuf_parse_base.proofs.text.join_words.Goals as goal

pub from_utf8_unchecked-requires : goal.from_utf8_unchecked-requires
from_utf8_unchecked-requires c =
    subst IsUtf8 (sym c.in_ok-joined.ensures)
    (IsUtf8-joined_words c.args.raise c.as_bytes.result.now c.as_bytes.ensures.utf8)

pub returns : goal.returns
returns c =
    ap (λ v. v.items) c.from_utf8_unchecked.ensures.value
    ∙ (c.in_ok-joined.ensures
    ∙ (joined_words-text c.args.raise c.as_bytes.result.now c.as_bytes.ensures.utf8
    ∙ ap (λ name. encode_utf8_all (joined_words c.args.raise (chars name)))
    c.as_bytes.ensures.value))
