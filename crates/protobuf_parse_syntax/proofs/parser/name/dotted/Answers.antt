use Rattle.std.proofs.Common.{ℕ, List, ◌++◌, string_bytes, refl, sym, ap, ◌∙◌, lit<}
use Rattle.std.proofs.lemmas.Str.{encode_ascii}
use Rattle.std.proofs.lemmas.Result.{err_from_is_err_and}
use Rattle.protobuf_parse_grammar.specs.Loops.{goes_on, stops_here}
use Rattle.protobuf_parse_syntax.specs.Grammar.{dots}
use Rattle.protobuf_parse_syntax.specs.Productions as read
use Rattle.protobuf_parse_syntax.specs.Code.{left}
use Rattle.protobuf_parse_syntax.proofs.Loops.{fails, shows_dots, dotted_more}
use Rattle.protobuf_parse_syntax.proofs.parser.name.dotted.Goals as goal

pub returns-in_err-part : goal.returns-in_err-part
returns-in_err-part c =
    let p = err_from_is_err_and c.from_residual-in_err-part.result
    c.from_residual-in_err-part.ensures.1 in
    rw (p.1, p.2)
    (fails read.dot_ident refl dots shows_dots (λ (v : List ℕ). v) (string_bytes c.parts.name)
    (left c.parts.tokens) (left c.dot_ident.new.tokens) c.in_err-part.field-0.0 _
    (sym c.sees_symbol.ensures ∙ c.parts-test.true) c.in_err-part.ensures c.parts.invariant)

pub parts-preserved : goal.parts-preserved
parts-preserved c = goes_on read.dot_ident refl dots shows_dots (λ (v : List ℕ). v)
    (string_bytes c.parts.name) _ (left c.parts.tokens) c.in_ok-part.part.now
    (left c.dot_ident.new.tokens) _
    (sym c.sees_symbol.ensures ∙ c.parts-test.true) c.in_ok-part.ensures
    (dotted_more (string_bytes c.parts.name) (string_bytes c.push.new.self) _ c.in_ok-part.part.now
    (c.in_ok-push.ensures.bytes
    ∙ ap (λ (z : List ℕ). string_bytes c.parts.name ++ z) (encode_ascii 46 (lit< tt)))
    c.in_ok-push_str.ensures.bytes) c.parts.invariant

pub returns : goal.returns
returns c = stops_here read.dot_ident refl dots shows_dots (λ (v : List ℕ). v)
    (string_bytes c.parts.name) (left c.parts.tokens) _
    (sym c.sees_symbol.ensures ∙ c.parts-test.false) c.parts.invariant
