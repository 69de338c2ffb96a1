-- What the bytes of a name are spelled as is the text that its characters are spelled as.
use Rattle.std.proofs.Common.{false, sym, subst, ◌∙◌}
use Rattle.std.proofs.lemmas.Result.{IfOk-weaker}
use Rattle.std.specs.Str.{IsUtf8}
use Rattle.protobuf_parse_base.proofs.CaseTexts.{joined_words-text, IsUtf8-joined_words}
use Rattle.protobuf_parse_base.proofs.text.json_name_in_place.Goals as goal

pub from_utf8_unchecked-requires : goal.from_utf8_unchecked-requires
from_utf8_unchecked-requires c =
    subst IsUtf8 (sym c.join_in_place-kept.ensures.value)
    (IsUtf8-joined_words false c.args.bytes.now c.requires.text)

pub returns : goal.returns
returns c =
    IfOk-weaker c.new.result _ _
    (λ json same. same ∙ (c.from_utf8_unchecked.ensures ∙ (c.join_in_place-kept.ensures.value
    ∙ joined_words-text false c.args.bytes.now c.requires.text))) c.new.ensures
