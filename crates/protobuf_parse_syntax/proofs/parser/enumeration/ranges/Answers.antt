use Rattle.std.proofs.Common.{◌≡◌, List, ◌++◌, ◌∷◌, [], map, refl, sym, ap, ◌∙◌}
use Rattle.std.proofs.lemmas.List.{map_push}
use Rattle.std.proofs.lemmas.Result.{err_from_is_err_and}
use Rattle.protobuf_parse_grammar.specs.Combinators.{run_many, shorter}
use Rattle.protobuf_parse_grammar.specs.Loops.{with_rest, shows_themselves, goes_on, stops_here}
use Rattle.protobuf_parse_syntax.specs.Trees.{RangeSyntax, range_syntax}
use Rattle.protobuf_parse_syntax.specs.Productions as read
use Rattle.protobuf_parse_syntax.specs.Productions.{ranges_first}
use Rattle.protobuf_parse_syntax.specs.Code.{left}
use Rattle.protobuf_parse_syntax.proofs.Loops.{fails}
use Rattle.protobuf_parse_syntax.proofs.parser.enumeration.ranges.Goals as goal

pub returns-in_err-range-2 : goal.returns-in_err-range-2
returns-in_err-range-2 c =
    let p = err_from_is_err_and c.from_residual-in_err-range-2.result
    c.from_residual-in_err-range-2.ensures.1 in
    rw (p.1, p.2)
    (fails read.comma_range refl (λ (v : List RangeSyntax). v) shows_themselves
    (λ (v : List RangeSyntax). v) (map range_syntax c.others.ranges.items) (left c.others.tokens)
    (left c.comma_range.new.tokens) c.in_err-range-2.field-0.0 _
    (sym c.sees_symbol.ensures ∙ c.others-test.true) c.in_err-range-2.ensures
    c.others.invariant)

pub others-preserved : goal.others-preserved
others-preserved c =
    let e : map range_syntax c.push-in-others.new.self.items
    ≡ map range_syntax c.others.ranges.items
    ++ range_syntax c.in_ok-range-2.range ∷ [] = ap (map range_syntax) c.in_ok-push-2.ensures.items
    ∙ map_push range_syntax c.others.ranges.items c.in_ok-range-2.range in
    goes_on read.comma_range refl (λ (v : List RangeSyntax). v) shows_themselves
    (λ (v : List RangeSyntax). v) (map range_syntax c.others.ranges.items) _
    (left c.others.tokens) (range_syntax c.in_ok-range-2.range) (left c.comma_range.new.tokens) _
    (sym c.sees_symbol.ensures ∙ c.others-test.true) c.in_ok-range-2.ensures e
    c.others.invariant

pub returns : goal.returns
returns c = stops_here read.comma_range refl (λ (v : List RangeSyntax). v) shows_themselves
    (λ (v : List RangeSyntax). v) (map range_syntax c.others.ranges.items) (left c.others.tokens) _
    (sym c.sees_symbol.ensures ∙ c.others-test.false) c.others.invariant

pub others-init : goal.others-init
others-init c =
    let e : map range_syntax c.push.new.self.items ≡ [] ++ range_syntax c.in_ok-range.field-0
    ∷ [] = ap (map range_syntax) (c.in_ok-push.ensures.items
    ∙ ap (λ (v : List _). v ++ c.in_ok-range.field-0 ∷ []) c.new-ranges.ensures.items) in
    ranges_first (left c.args.tokens.now) (left c.range.new.tokens)
    (range_syntax c.in_ok-range.field-0) c.in_ok-range.ensures
    ∙ ap (λ (v : List RangeSyntax). with_rest (λ (x : List RangeSyntax). x)
    (λ (x : List RangeSyntax). x) v
    (run_many read.comma_range (left c.range.new.tokens))) (sym e)

pub others-smaller : goal.others-smaller
others-smaller c = shorter read.comma_range refl (left c.others.tokens)
    (range_syntax c.in_ok-range-2.range) (left c.comma_range.new.tokens) c.in_ok-range-2.ensures
