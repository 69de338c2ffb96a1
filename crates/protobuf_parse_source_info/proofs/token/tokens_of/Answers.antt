use Rattle.std.proofs.Common.{◌≡◌, ◌++◌, ◌-◌, [], ◌∷◌, List, ℕ, map, length, drop, sym, ap, ap₂}
use Rattle.std.proofs.Common.{◌∙◌, append_assoc}
use Rattle.std.proofs.lemmas.List.{map-append, append-nil}
use Rattle.protobuf_parse_lexer.specs.AheadViews.{lies_ahead}
use Rattle.protobuf_parse_lexer.specs.Cut.{Stream}
use Rattle.protobuf_parse_lexer.specs.Tokenizers.{next_lexeme}
use Rattle.protobuf_parse_lexer.proofs.Ahead.{advanced, lies_ahead_only}
use Rattle.protobuf_parse_source_info.specs.InnerViews.{spot}
use Rattle.protobuf_parse_source_info.specs.Spots.{Spot, spot_in, spots_in, point}
use Rattle.protobuf_parse_source_info.specs.declared.token.Point.{Point}
use Rattle.protobuf_parse_source_info.specs.declared.token.Token.{Token}
use Rattle.protobuf_parse_source_info.proofs.Cutting.{next_spot, no_spot, behinds, behinds_gone}
use Rattle.protobuf_parse_source_info.proofs.Cutting.{behinds_only, fewer_ahead}
use Rattle.protobuf_parse_source_info.proofs.token.tokens_of.Goals as goal

pub cut-smaller : goal.cut-smaller
cut-smaller c =
    fewer_ahead c.cut.left c.advance.new.self c.in-Some.token c.in-Some.is
    (advanced c.cut.left c.advance.new.self c.advance.ensures.tokens)

pub cut-preserved : goal.cut-preserved
cut-preserved c =
    let text = c.args.text.now in
    let before = c.cut.left in
    let later = c.advance.new.self in
    let k = c.in-Some.token in
    let n = c.bytes_behind.result in
    let t : Token =
    record { text = k.text; from = c.moved-from.result; to = c.moved-end.result } in
    let is : spot t ≡ spot_in text (next_lexeme k) n =
    ap₂ (λ (p q : Point). record { text = k.text.now; from = p; to = q })
    (c.moved-from.ensures
    ∙ ap (point text)
    (c.saturating_sub.ensures
    ∙ ap (λ (m : ℕ). m - length k.text.now) c.saturating_sub-to.ensures))
    (c.moved-end.ensures ∙ ap (point text) c.saturating_sub-to.ensures) in
    let old = map spot c.cut.tokens.items in
    let rest = spots_in text (lies_ahead later).tokens (behinds later) in
    let gone : rest ≡ spots_in text (drop 1 (lies_ahead before).tokens) (drop 1 (behinds before)) =
    ap₂ (λ (s : Stream) (m : List ℕ). spots_in text s.tokens m)
    (advanced before later c.advance.ensures.tokens)
    (behinds_gone before later c.advance.ensures.bytes) in (
      c.moved-end.ensures ∙ ap (point text) (sym (ap (λ (p : Point). p.byte) c.moved-end.ensures)),
      ap (λ (ts : List Token). map spot ts ++ rest) c.in_ok-push.ensures.items
          ∙ ap (λ (x : List Spot). x ++ rest) (map-append spot c.cut.tokens.items (t ∷ []))
          ∙ append_assoc old (spot t ∷ []) rest
          ∙ ap₂ (λ (s : Spot) (x : List Spot). old ++ s ∷ x) is gone
          ∙ ap (λ (x : List Spot). old ++ x)
          (sym (next_spot text before k n c.in-Some.is c.bytes_behind.ensures))
          ∙ c.cut.invariant.1,
    )

pub returns-clause-found : goal.returns-clause-found
returns-clause-found c = λ spots has.
    let text = c.args.text.now in
    let first = c.in_ok-left.left in
    let found = map spot c.cut.tokens.items in
    sym (append-nil found)
    ∙ ap (λ (x : List Spot). found ++ x) (sym (no_spot text c.cut.left c.in_default.is))
    ∙ c.cut.invariant.1
    ∙ ap₂ (λ (s : Stream) (m : List ℕ). spots_in text s.tokens m)
    (lies_ahead_only first has.0 (c.in_ok-left.ensures.reads has.0 has.2))
    (behinds_only first has.1 ((c.in_ok-left.ensures.bytes has.1).1 has.3))
    ∙ sym has.4
