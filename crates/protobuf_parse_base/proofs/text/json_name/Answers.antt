-- A name without underscores stays; another is spelled in place where it is short.
use Rattle.std.proofs.Common.{false, length, rules, arith, sym, ap, ◌∙◌}
use Rattle.std.proofs.lemmas.Result.{IfOk-weaker}
use Rattle.protobuf_parse_base.specs.Cases.{json_name_text}
use Rattle.protobuf_parse_base.proofs.CaseTexts.{joined_words-text, joined_words-plain}
use Rattle.protobuf_parse_base.proofs.text.json_name.Goals as goal

pub returns-then-front-name : goal.returns-then-front-name
returns-then-front-name c =
    let bytes = c.as_bytes.result.now in
    let plain = joined_words-plain c.before_underscore-front.result bytes
    (omega (arith, c.if-front-name.true, ap length c.as_bytes.ensures.value))
    c.before_underscore-front.ensures.kept in
    let spelled = joined_words-text false bytes c.as_bytes.ensures.utf8 in
    IfOk-weaker c.new.result _ _
    (λ json same. same ∙ (sym c.as_bytes.ensures.value ∙ (sym plain ∙ (spelled
    ∙ ap json_name_text c.as_bytes.ensures.value)))) c.new.ensures

pub returns : goal.returns
returns c =
    IfOk-weaker c.json_name_in_place.result _ _
    (λ json same. same ∙ ap json_name_text (search rules)) c.json_name_in_place.ensures
