use Rattle.std.proofs.Common.{◌≡◌, List, ◌++◌, ◌∷◌, [], map, string_bytes, refl, sym, ap, ◌∙◌}
use Rattle.std.proofs.lemmas.List.{map_push}
use Rattle.std.proofs.lemmas.Result.{err_from_is_err_and}
use Rattle.protobuf_parse_grammar.specs.Loops.{shows_themselves, goes_on, stops_here}
use Rattle.protobuf_parse_lexer.specs.Text.{Bytes}
use Rattle.protobuf_parse_syntax.specs.Productions as read
use Rattle.protobuf_parse_syntax.specs.Code.{left}
use Rattle.protobuf_parse_syntax.proofs.Loops.{fails}
use Rattle.protobuf_parse_syntax.proofs.parser.name.string.Goals as goal

pub returns-in_err-piece : goal.returns-in_err-piece
returns-in_err-piece c =
    let p = err_from_is_err_and c.from_residual-in_err-piece.result
    c.from_residual-in_err-piece.ensures.1 in
    rw (p.1, p.2)
    (fails read.piece refl (λ (v : List Bytes). v) shows_themselves (λ (v : List Bytes). v)
    (map string_bytes c.others.pieces.items) (left c.others.tokens)
    (left c.piece-in-others.new.self) c.in_err-piece.field-0.0 _
    (sym c.sees_str.ensures ∙ c.others-test.true) c.in_err-piece.ensures c.others.invariant)

pub others-preserved : goal.others-preserved
others-preserved c =
    let before = map string_bytes c.others.pieces.items in
    let e : map string_bytes c.push-in-others.new.self.items
    ≡ before ++ c.in_ok-piece.piece.now ∷ [] =
    ap (map string_bytes) c.in_ok-push-2.ensures.items
    ∙ map_push string_bytes c.others.pieces.items c.in_ok-from_str-2.field-0
    ∙ ap (λ (z : Bytes). before ++ z ∷ []) c.in_ok-from_str-2.ensures.ok in
    goes_on read.piece refl (λ (v : List Bytes). v) shows_themselves (λ (v : List Bytes). v)
    before _ (left c.others.tokens) c.in_ok-piece.piece.now (left c.piece-in-others.new.self) _
    (sym c.sees_str.ensures ∙ c.others-test.true) c.in_ok-piece.ensures e c.others.invariant

pub returns : goal.returns
returns c = stops_here read.piece refl (λ (v : List Bytes). v) shows_themselves
    (λ (v : List Bytes). v) (map string_bytes c.others.pieces.items) (left c.others.tokens) _
    (sym c.sees_str.ensures ∙ c.others-test.false) c.others.invariant
