use Rattle.std.proofs.Common.{◌≡◌, sym, ◌∙◌, subst, ap, length, arith}
use Rattle.std.proofs.lemmas.Str.{IsUtf8-drop}
use Rattle.std.proofs.Common.{IsUtf8}
use Rattle.protobuf_parse_lexer.specs.Text.{IsBlank, IsToken, IsFault}
use Rattle.protobuf_parse_lexer.specs.Place.{after}
use Rattle.protobuf_parse_lexer.specs.Scan.{IsPlaceBefore}
use Rattle.protobuf_parse_lexer.specs.declared.lexer.front.Piece.TheVariants as piece
use Rattle.protobuf_parse_lexer.proofs.Ahead.{ahead_is}
use Rattle.protobuf_parse_lexer.proofs.BehindSteps.{behinds_is, blank_behinds}
use Rattle.protobuf_parse_lexer.proofs.ShortWays.{behind_step}
use Rattle.protobuf_parse_lexer.proofs.Cuts.{blank_cut}
use Rattle.protobuf_parse_lexer.proofs.lexer.tokenizer.Tokenizer.cut_any.Goals as goal

pub returns-in-End-clause-tokens : goal.returns-in-End-clause-tokens
returns-in-End-clause-tokens c =
    let empty : length c.past_blanks.result.1.now
    ≡ 0 = omega (arith, ap length c.as_bytes.ensures.value, c.in-End.ensures) in
    c.end.ensures.tokens
    ∙ sym (ahead_is c.pieces.self.brackets.opened c.pieces.self.brackets.closed
    c.past_blanks.result.0 c.past_blanks.result.1.now piece.End empty)
    ∙ c.past_blanks.ensures.same c.pieces.self.brackets.opened c.pieces.self.brackets.closed
    ∙ c.pieces.invariant.4

pub split_at-requires : goal.split_at-requires
split_at-requires c =
    let is = subst (λ z. IsBlank z c.in-Blank.len) c.as_bytes.ensures.value c.in-Blank.ensures in
    blank_cut c.past_blanks.result.1.now c.in-Blank.len
    (subst IsUtf8 c.as_bytes.ensures.value c.as_bytes.ensures.utf8) is

pub pieces-preserved : goal.pieces-preserved
pieces-preserved c =
    let z = c.past_blanks.result.1.now in
    let n = c.in-Blank.len in
    let is = subst (λ x. IsBlank x n) c.as_bytes.ensures.value c.in-Blank.ensures in
    let front = subst IsUtf8 c.as_bytes.ensures.value c.as_bytes.ensures.utf8 in
    let utf8 = IsUtf8-drop z n front (blank_cut z n front is) in
    let start = c.past_blanks.result.0 in
    let at = c.place_behind-place.result in
    let same = c.as_bytes-in-Blank.ensures.value in (
      subst IsUtf8 (sym c.split_at.ensures.back) utf8,
      omega (arith, ap length same),
      omega (arith, ap length same),
      omega (arith, ap length same),
      behind_step c.pieces.self.brackets.opened c.pieces.self.brackets.closed
          start at z c.split_at.result.0.now c.split_at.result.1.now n is
          c.split_at.ensures.front c.split_at.ensures.back
          (subst (λ x. IsPlaceBefore c.split_at.result.1.now (after start x) at) same
          (subst (λ y. IsPlaceBefore y (after start c.as_bytes-in-Blank.result.now) at)
          c.as_bytes-in-Blank-2.ensures.value c.place_behind-place.ensures.value))
          ∙ c.past_blanks.ensures.same c.pieces.self.brackets.opened c.pieces.self.brackets.closed
          ∙ c.pieces.invariant.4,
      blank_behinds c.pieces.self.brackets.opened c.pieces.self.brackets.closed z
          c.split_at.result.1.now n is c.split_at.ensures.back
          ∙ c.past_blanks.ensures.behinds c.pieces.self.brackets.opened
          c.pieces.self.brackets.closed
          ∙ c.pieces.invariant.5,
    )

pub take-requires-clause-token : goal.take-requires-clause-token
take-requires-clause-token c =
    subst (λ z. IsToken z c.in-Token.len c.in-Token.kind) c.as_bytes.ensures.value
    c.in-Token.ensures

pub returns-in-Token-clause-tokens : goal.returns-in-Token-clause-tokens
returns-in-Token-clause-tokens c = c.take.ensures.tokens
    ∙ c.past_blanks.ensures.same c.pieces.self.brackets.opened c.pieces.self.brackets.closed
    ∙ c.pieces.invariant.4

pub returns-in-Fault-clause-tokens : goal.returns-in-Fault-clause-tokens
returns-in-Fault-clause-tokens c =
    let z = c.past_blanks.result.1.now in
    let e = c.in-Fault.field-0 in
    let is = subst (λ x. IsFault x e) c.as_bytes.ensures.value c.in-Fault.ensures in
    c.end-in-Fault.ensures.tokens
    ∙ sym (ahead_is c.pieces.self.brackets.opened c.pieces.self.brackets.closed
    c.past_blanks.result.0 z (piece.Fault e) is)
    ∙ c.past_blanks.ensures.same c.pieces.self.brackets.opened c.pieces.self.brackets.closed
    ∙ c.pieces.invariant.4

pub returns-in-End-clause-behinds : goal.returns-in-End-clause-behinds
returns-in-End-clause-behinds c =
    let empty : length c.past_blanks.result.1.now
    ≡ 0 = omega (arith, ap length c.as_bytes.ensures.value, c.in-End.ensures) in
    c.end.ensures.behinds
    ∙ sym (behinds_is c.pieces.self.brackets.opened c.pieces.self.brackets.closed
    c.past_blanks.result.1.now piece.End empty)
    ∙ c.past_blanks.ensures.behinds c.pieces.self.brackets.opened c.pieces.self.brackets.closed
    ∙ c.pieces.invariant.5

pub returns-in-Token-clause-behinds : goal.returns-in-Token-clause-behinds
returns-in-Token-clause-behinds c = c.take.ensures.behinds
    ∙ c.past_blanks.ensures.behinds c.pieces.self.brackets.opened c.pieces.self.brackets.closed
    ∙ c.pieces.invariant.5

pub returns-in-Fault-clause-behinds : goal.returns-in-Fault-clause-behinds
returns-in-Fault-clause-behinds c =
    let z = c.past_blanks.result.1.now in
    let e = c.in-Fault.field-0 in
    let is = subst (λ x. IsFault x e) c.as_bytes.ensures.value c.in-Fault.ensures in
    c.end-in-Fault.ensures.behinds
    ∙ sym (behinds_is c.pieces.self.brackets.opened c.pieces.self.brackets.closed z
    (piece.Fault e) is)
    ∙ c.past_blanks.ensures.behinds c.pieces.self.brackets.opened c.pieces.self.brackets.closed
    ∙ c.pieces.invariant.5
