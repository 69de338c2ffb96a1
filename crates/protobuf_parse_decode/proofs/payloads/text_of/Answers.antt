use Rattle.std.proofs.Common.{◌≡◌, ℕ, List, Ok, Bool, true, false, cond, refl, sym, subst, ap, ◌∙◌}
use Rattle.std.specs.Str.{is_utf8}
use Rattle.std.proofs.lemmas.Str.{is_utf8-from_IsUtf8, IsUtf8-from_is_utf8}
use Rattle.protobuf_parse_records.specs.Views.{payload_view}
use Rattle.protobuf_parse_records.specs.declared.wire.Payload.{Payload}
use Rattle.protobuf_parse_decode.specs.declared.fault.DecodeFaultKind.TheVariants.{NotUtf8}
use Rattle.protobuf_parse_decode.specs.Answers.{Answer, Gives, fault}
use Rattle.protobuf_parse_decode.specs.Decoding.{text_in}
use Rattle.protobuf_parse_decode.specs.Fields.{Meaning, Value, one_value, text}
use Rattle.protobuf_parse_decode.specs.Inside.{meaning_view}
use Rattle.protobuf_parse_decode.proofs.CodeViews.{text_is}
use Rattle.protobuf_parse_decode.proofs.payloads.text_of.Goals as goal

not_true : (b : Bool) → (b ≡ true → ⊥) → b ≡ false
not_true true never = absurd (never refl)
not_true false never = refl

pub returns-in-Ok : goal.returns-in-Ok
returns-in-Ok c =
    let s = c.in-Delimited.span in
    let yes : is_utf8 s.bytes.now ≡ true = is_utf8-from_IsUtf8 _ c.in-Ok.ensures.cases.1 in
    let e = ap (λ (p : Payload). text_in (payload_view p)) c.in-Delimited.is
    ∙ ap (λ (b : Bool). cond b (Ok (one_value (text s.bytes.now))) (fault s.start NotUtf8)) yes
    ∙ ap (λ (bs : List ℕ). Ok (one_value (text bs))) (sym c.in-Ok.ensures.cases.0)
    ∙ ap (λ (v : Value). Ok (one_value v)) (sym (text_is c.in-Ok.text)) in
    subst (λ (r : Answer Meaning). Gives meaning_view c.one.result r) (sym e) c.one.ensures

pub returns-in-Err : goal.returns-in-Err
returns-in-Err c = rw (
  c.fault.ensures,
  c.in-Delimited.is,
  not_true (is_utf8 c.in-Delimited.span.bytes.now)
      (λ e. c.in-Err.ensures.cases.0 (IsUtf8-from_is_utf8 _ e)),
) refl
