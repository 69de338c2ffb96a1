use Rattle.std.proofs.Common.{length, take, ap, subst, ◌∙◌, arith}
use Rattle.protobuf_parse_lexer.specs.Place.{after}
use Rattle.protobuf_parse_lexer.specs.Text.{AllIn, RunStopsAt}
use Rattle.protobuf_parse_lexer.specs.declared.lexer.bytes.ByteClass.TheVariants as class
use Rattle.protobuf_parse_lexer.proofs.ShortWays.{blanks_cut, blanks_step}
use Rattle.protobuf_parse_lexer.proofs.BehindSteps.{blanks_behinds}
use Rattle.protobuf_parse_lexer.proofs.lexer.tokenizer.past_blanks.Goals as goal

pub split_at-requires : goal.split_at-requires
split_at-requires c =
    let n = c.blanks-len.result.0 in
    let same = c.as_bytes.ensures.value in
    blanks_cut c.args.text.now n c.utf8.text (omega (arith, ap length same))
    (subst (λ z. AllIn class.Blank z 0 n) same c.blanks-len.ensures.each)
    (subst (λ z. RunStopsAt class.Blank z n) same c.blanks-len.ensures.stops)

pub returns-clause-same : goal.returns-clause-same
returns-clause-same c = λ o d.
    let n = c.blanks-len.result.0 in
    let same = c.as_bytes.ensures.value in
    blanks_step o d c.args.place c.blanks-len.result.1 c.args.text.now c.split_at.result.1.now n
    (omega (arith, ap length same))
    (subst (λ z. AllIn class.Blank z 0 n) same c.blanks-len.ensures.each)
    (subst (λ z. RunStopsAt class.Blank z n) same c.blanks-len.ensures.stops)
    c.split_at.ensures.back
    (c.blanks-len.ensures.value ∙ ap (λ z. after c.args.place (take n z)) same)

pub returns-clause-behinds : goal.returns-clause-behinds
returns-clause-behinds c = λ o d.
    let n = c.blanks-len.result.0 in
    let same = c.as_bytes.ensures.value in
    blanks_behinds o d c.args.text.now c.split_at.result.1.now n
    (omega (arith, ap length same))
    (subst (λ z. AllIn class.Blank z 0 n) same c.blanks-len.ensures.each)
    (subst (λ z. RunStopsAt class.Blank z n) same c.blanks-len.ensures.stops)
    c.split_at.ensures.back
