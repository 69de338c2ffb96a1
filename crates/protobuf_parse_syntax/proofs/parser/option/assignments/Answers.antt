use Rattle.std.proofs.Common.{◌≡◌, List, ◌++◌, ◌∷◌, [], map, refl, sym, ap, ◌∙◌}
use Rattle.std.proofs.lemmas.List.{map_push}
use Rattle.std.proofs.lemmas.Result.{err_from_is_err_and}
use Rattle.protobuf_parse_grammar.specs.Combinators.{run_many, shorter}
use Rattle.protobuf_parse_grammar.specs.Loops.{with_rest, shows_themselves, goes_on, stops_here}
use Rattle.protobuf_parse_syntax.specs.Trees.{OptionSyntax, option_syntax}
use Rattle.protobuf_parse_syntax.specs.Nested as nest
use Rattle.protobuf_parse_syntax.specs.Nested.{assignments_first}
use Rattle.protobuf_parse_syntax.specs.Code.{left, InOption}
use Rattle.protobuf_parse_syntax.proofs.Lists.{first_read, next_read, wrong_item, wrong_later}
use Rattle.protobuf_parse_syntax.proofs.parser.option.assignments.Goals as goal

pub others-init : goal.others-init
others-init c =
    let e : map option_syntax c.push.new.self.items ≡ [] ++ option_syntax c.in_ok-assignment.field-0
    ∷ [] = ap (map option_syntax) (c.in_ok-push.ensures.items
    ∙ ap (λ (v : List _). v ++ c.in_ok-assignment.field-0 ∷ []) c.in_ok-options.ensures.items) in (
      assignments_first c.args.levels (left c.args.tokens.now) (left c.assignment.new.tokens)
          (option_syntax c.in_ok-assignment.field-0) c.in_ok-assignment.ensures
          ∙ ap (λ (v : List OptionSyntax). with_rest (λ (x : List OptionSyntax). x)
          (λ (x : List OptionSyntax). x) v
          (run_many (nest.comma_assignment c.args.levels).low (left c.assignment.new.tokens)))
          (sym e),
      first_read (nest.assignment c.args.levels).low (left c.args.tokens.now) (left c.assignment.new.tokens)
          (option_syntax c.in_ok-assignment.field-0) c.in_ok-assignment.ensures,
    )

pub returns-in_err-assignment : goal.returns-in_err-assignment
unfolding nest.assignments
returns-in_err-assignment c =
    let p = err_from_is_err_and c.from_residual-in_err-assignment.result
    c.from_residual-in_err-assignment.ensures.1 in
    rw (p.1, p.2)
    (wrong_item (nest.assignment c.args.levels).low InOption c.in_err-assignment.field-0.0
    (left c.args.tokens.now) (left c.assignment.new.tokens) _ c.in_err-assignment.ensures)

pub returns-in_err-option : goal.returns-in_err-option
returns-in_err-option c =
    let p = err_from_is_err_and c.from_residual-in_err-option.result
    c.from_residual-in_err-option.ensures.1 in
    rw (p.1, p.2)
    (wrong_later (nest.assignment c.args.levels).low InOption c.in_err-option.field-0.0
    (left c.args.tokens.now) (left c.comma_assignment.new.tokens) (left c.others.tokens)
    (map option_syntax c.others.options.items) _
    (sym c.sees_symbol.ensures ∙ c.others-test.true) c.others.invariant.1 c.others.invariant.0
    c.in_err-option.ensures)

pub others-smaller : goal.others-smaller
others-smaller c = shorter (nest.comma_assignment c.args.levels).low refl (left c.others.tokens)
    (option_syntax c.in_ok-option.option) (left c.comma_assignment.new.tokens)
    c.in_ok-option.ensures

pub others-preserved : goal.others-preserved
others-preserved c =
    let e : map option_syntax c.push-in-others.new.self.items
    ≡ map option_syntax c.others.options.items ++ option_syntax c.in_ok-option.option ∷ [] =
    ap (map option_syntax) c.in_ok-push-2.ensures.items
    ∙ map_push option_syntax c.others.options.items c.in_ok-option.option in (
      goes_on (nest.comma_assignment c.args.levels).low refl (λ (v : List OptionSyntax). v)
          shows_themselves (λ (v : List OptionSyntax). v)
          (map option_syntax c.others.options.items) _
          (left c.others.tokens) (option_syntax c.in_ok-option.option)
          (left c.comma_assignment.new.tokens) _
          (sym c.sees_symbol.ensures ∙ c.others-test.true) c.in_ok-option.ensures e
          c.others.invariant.0,
      next_read (nest.assignment c.args.levels).low (left c.args.tokens.now) (left c.others.tokens)
          (left c.comma_assignment.new.tokens) (option_syntax c.in_ok-option.option)
          c.others.invariant.1 c.in_ok-option.ensures,
    )

pub returns : goal.returns
returns c = stops_here (nest.comma_assignment c.args.levels).low refl
    (λ (v : List OptionSyntax). v) shows_themselves (λ (v : List OptionSyntax). v)
    (map option_syntax c.others.options.items) (left c.others.tokens) _
    (sym c.sees_symbol.ensures ∙ c.others-test.false) c.others.invariant.0
