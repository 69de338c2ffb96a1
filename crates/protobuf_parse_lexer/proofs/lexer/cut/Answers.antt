use Rattle.std.proofs.Common.{◌≡◌, length, map, ◌++◌, [], arith, ap, sym, subst, ◌∙◌, IsUtf8}
use Rattle.std.proofs.Common.{append-nil}
use Rattle.std.proofs.lemmas.Str.{IsUtf8-drop}
use Rattle.protobuf_parse_lexer.specs.Text.{IsBlank, IsToken, IsFault}
use Rattle.protobuf_parse_lexer.specs.Tokens.{lexeme}
use Rattle.protobuf_parse_lexer.specs.Cut.{Cuts, done}
use Rattle.protobuf_parse_lexer.specs.Place.{after}
use Rattle.protobuf_parse_lexer.proofs.Cuts.{blank_cut, token_cut, blank_step, token_step}
use Rattle.protobuf_parse_lexer.proofs.Cuts.{push_step, end_step, refused}
use Rattle.protobuf_parse_lexer.specs.Scan.{IsNarrow}
use Rattle.protobuf_parse_lexer.proofs.Narrow.{token_narrow}
use Rattle.protobuf_parse_lexer.proofs.lexer.cut.Goals as goal

pub split_at-requires : goal.split_at-requires
split_at-requires c =
    let is = subst (λ z. IsBlank z c.in-Blank.len) c.as_bytes.ensures.value c.in-Blank.ensures in
    blank_cut c.loop-tokens.rest.now c.in-Blank.len c.loop-tokens.invariant.0 is

pub split_at-requires-in-Token : goal.split_at-requires-in-Token
split_at-requires-in-Token c =
    let is = subst (λ z. IsToken z c.in-Token.len c.in-Token.kind) c.as_bytes.ensures.value
    c.in-Token.ensures in
    token_cut c.loop-tokens.rest.now c.in-Token.len c.in-Token.kind c.loop-tokens.invariant.0 is

pub place_past-place-requires-clause-narrow : goal.place_past-place-requires-clause-narrow
place_past-place-requires-clause-narrow c =
    let z = c.loop-tokens.rest.now in
    let n = c.in-Token.len in
    let is = subst (λ x. IsToken x n c.in-Token.kind) c.as_bytes.ensures.value c.in-Token.ensures in
    let front = c.as_bytes-in-Token.ensures.value ∙ c.split_at-in-Token.ensures.front in
    subst (IsNarrow c.in-Token.kind) (sym front) (token_narrow z n c.in-Token.kind is)

pub returns-in-End : goal.returns-in-End
returns-in-End c =
    let empty : length c.loop-tokens.rest.now
    ≡ 0 = omega (arith, ap length c.as_bytes.ensures.value, c.in-End.ensures) in
    subst (λ ts. Cuts c.args.text.now ts c.loop-tokens.place [])
    (append-nil (map lexeme c.loop-tokens.tokens.items))
    (c.loop-tokens.invariant.3 [] c.loop-tokens.place []
    (end_step c.loop-tokens.place c.loop-tokens.rest.now empty))

pub loop-tokens-preserved-in-Blank : goal.loop-tokens-preserved-in-Blank
loop-tokens-preserved-in-Blank c =
    let z = c.loop-tokens.rest.now in
    let n = c.in-Blank.len in
    let is = subst (λ x. IsBlank x n) c.as_bytes.ensures.value c.in-Blank.ensures in
    let utf8 = IsUtf8-drop z n c.loop-tokens.invariant.0
    (blank_cut z n c.loop-tokens.invariant.0 is) in
    let same = c.as_bytes-in-Blank.ensures.value in (
      subst IsUtf8 (sym c.split_at.ensures.back) utf8,
      omega (arith, ap length same),
      omega (arith, ap length same),
      λ ts q r cut.
          c.loop-tokens.invariant.3 ts q r
          (blank_step n c.loop-tokens.place c.place_after-place.result q z c.split_at.result.0.now
          c.split_at.result.1.now r ts is c.split_at.ensures.front c.split_at.ensures.back
          (c.place_after-place.ensures.value ∙ ap (after c.loop-tokens.place) same) cut),
    )

pub loop-tokens-preserved : goal.loop-tokens-preserved
loop-tokens-preserved c =
    let z = c.loop-tokens.rest.now in
    let n = c.in-Token.len in
    let is = subst (λ x. IsToken x n c.in-Token.kind) c.as_bytes.ensures.value c.in-Token.ensures in
    let utf8 = IsUtf8-drop z n c.loop-tokens.invariant.0
    (token_cut z n c.in-Token.kind c.loop-tokens.invariant.0 is) in
    let same = c.as_bytes-in-Token.ensures.value in
    let items = c.in_ok-push-in-Token.ensures.items in (
      subst IsUtf8 (sym c.split_at-in-Token.ensures.back) utf8,
      omega (arith, ap length same),
      omega (arith, ap length same),
      λ ts q r cut.
          subst (λ l. Cuts c.args.text.now (map lexeme l ++ ts) q r) (sym items)
          (subst (λ l. Cuts c.args.text.now l q r) (sym (push_step c.loop-tokens.tokens.items _ ts))
          (c.loop-tokens.invariant.3 _ q r
          (token_step n c.in-Token.kind c.loop-tokens.place c.place_past-place.result q z
          c.split_at-in-Token.result.0.now c.split_at-in-Token.result.1.now r ts is
          c.split_at-in-Token.ensures.front c.split_at-in-Token.ensures.back
          (c.place_past-place.ensures.value ∙ ap (after c.loop-tokens.place) same) cut))),
    )

pub returns-in-Fault : goal.returns-in-Fault
returns-in-Fault c =
    let z = c.loop-tokens.rest.now in
    let is = subst (λ x. IsFault x c.in-Fault.error) c.as_bytes.ensures.value c.in-Fault.ensures in
    let ts = map lexeme c.loop-tokens.tokens.items in
    let cut = subst (λ l. Cuts c.args.text.now l c.loop-tokens.place z) (append-nil ts)
    (c.loop-tokens.invariant.3 [] c.loop-tokens.place z done) in
    refused c.args.text.now z ts c.in-Fault.error c.loop-tokens.place c.located.result
    c.located.ensures cut is
