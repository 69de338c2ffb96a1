use Rattle.std.proofs.Common.{◌≡◌, List, ◌++◌, ◌∷◌, [], map, string_bytes, refl, sym, ap, ◌∙◌}
use Rattle.std.proofs.lemmas.List.{map_push}
use Rattle.std.proofs.lemmas.Result.{err_from_is_err_and}
use Rattle.protobuf_parse_grammar.specs.Combinators.{run_many, shorter}
use Rattle.protobuf_parse_grammar.specs.Loops.{with_rest, shows_themselves, goes_on, stops_here}
use Rattle.protobuf_parse_lexer.specs.Text.{Bytes}
use Rattle.protobuf_parse_syntax.specs.Productions as read
use Rattle.protobuf_parse_syntax.specs.Productions.{names_first}
use Rattle.protobuf_parse_syntax.specs.Code.{left, Unsaid, of_text}
use Rattle.protobuf_parse_syntax.proofs.Lists.{first_read, next_read, wrong_item, wrong_later}
use Rattle.protobuf_parse_syntax.proofs.parser.enumeration.names.Goals as goal

pub returns-in_err-name : goal.returns-in_err-name
returns-in_err-name c =
    let p = err_from_is_err_and c.from_residual-in_err-name.result
    c.from_residual-in_err-name.ensures.1 in
    rw (p.1, p.2)
    (wrong_later read.reserved_name (Unsaid of_text) c.in_err-name.field-0.0
    (left c.args.tokens.now) (left c.comma_name.new.tokens) (left c.others.tokens)
    (map string_bytes c.others.names.items) _
    (sym c.sees_symbol.ensures ∙ c.others-test.true) c.others.invariant.1 c.others.invariant.0
    c.in_err-name.ensures)

pub others-preserved : goal.others-preserved
others-preserved c =
    let e : map string_bytes c.push-in-others.new.self.items ≡ map string_bytes c.others.names.items
    ++ string_bytes c.in_ok-name.name ∷ [] = ap (map string_bytes) c.in_ok-push-2.ensures.items
    ∙ map_push string_bytes c.others.names.items c.in_ok-name.name in (
      goes_on read.comma_name refl (λ (v : List Bytes). v) shows_themselves
          (λ (v : List Bytes). v) (map string_bytes c.others.names.items) _
          (left c.others.tokens) (string_bytes c.in_ok-name.name) (left c.comma_name.new.tokens) _
          (sym c.sees_symbol.ensures ∙ c.others-test.true) c.in_ok-name.ensures e
          c.others.invariant.0,
      next_read read.reserved_name (left c.args.tokens.now) (left c.others.tokens)
          (left c.comma_name.new.tokens) (string_bytes c.in_ok-name.name) c.others.invariant.1
          c.in_ok-name.ensures,
    )

pub returns : goal.returns
returns c = stops_here read.comma_name refl (λ (v : List Bytes). v) shows_themselves
    (λ (v : List Bytes). v) (map string_bytes c.others.names.items) (left c.others.tokens) _
    (sym c.sees_symbol.ensures ∙ c.others-test.false) c.others.invariant.0

pub others-init : goal.others-init
others-init c =
    let e : map string_bytes c.push.new.self.items ≡ [] ++ string_bytes c.in_ok-text.field-0
    ∷ [] = ap (map string_bytes) (c.in_ok-push.ensures.items
    ∙ ap (λ (v : List _). v ++ c.in_ok-text.field-0 ∷ []) c.new-names.ensures.items) in (
      names_first (left c.args.tokens.now) (left c.text.new.tokens)
          (string_bytes c.in_ok-text.field-0) c.in_ok-text.ensures
          ∙ ap (λ (v : List Bytes). with_rest (λ (x : List Bytes). x) (λ (x : List Bytes). x) v
          (run_many read.comma_name (left c.text.new.tokens))) (sym e),
      first_read read.reserved_name (left c.args.tokens.now) (left c.text.new.tokens)
          (string_bytes c.in_ok-text.field-0) c.in_ok-text.ensures,
    )

pub others-smaller : goal.others-smaller
others-smaller c = shorter read.comma_name refl (left c.others.tokens)
    (string_bytes c.in_ok-name.name) (left c.comma_name.new.tokens) c.in_ok-name.ensures

pub returns-in_err-text : goal.returns-in_err-text
unfolding read.names
returns-in_err-text c =
    let p = err_from_is_err_and c.from_residual.result c.from_residual.ensures.1 in
    rw (p.1, p.2)
    (wrong_item read.reserved_name (Unsaid of_text) c.in_err-text.field-0.0
    (left c.args.tokens.now) (left c.text.new.tokens) _ c.in_err-text.ensures)
