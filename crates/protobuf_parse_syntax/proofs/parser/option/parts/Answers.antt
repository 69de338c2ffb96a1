use Rattle.std.proofs.Common.{◌≡◌, ◌-◌, List, ◌++◌, ◌∷◌, [], map, inl, sym, ap, ◌∙◌, arith}
use Rattle.std.proofs.lemmas.List.{map_push}
use Rattle.std.proofs.lemmas.Result.{err_from_is_err_and}
use Rattle.protobuf_parse_syntax.specs.Trees.{OptionPartSyntax, option_part_syntax}
use Rattle.protobuf_parse_syntax.specs.Productions.{parts_up_to}
use Rattle.protobuf_parse_syntax.specs.Code.{left}
use Rattle.protobuf_parse_syntax.proofs.Parts.{behind, parts_end, one_more, fails_at_part}
use Rattle.protobuf_parse_syntax.proofs.Parts.{ends_here}
use Rattle.protobuf_parse_syntax.proofs.parser.option.parts.Goals as goal

pub others-init : goal.others-init
others-init c =
    let e : map option_part_syntax c.push.new.self.items ≡ option_part_syntax c.args.first
    ∷ [] = ap (map option_part_syntax)
    (c.in_ok-push.ensures.items
    ∙ ap (λ (v : List _). v ++ c.args.first ∷ []) c.in_ok-parts.ensures.items) in
    ap (λ (v : List OptionPartSyntax). behind v ((parts_up_to 99).run (left c.args.tokens.now)))
    (sym e)

pub others-preserved : goal.others-preserved
others-preserved c =
    let e : map option_part_syntax c.push-in-others.new.self.items
    ≡ map option_part_syntax c.others.parts.items ++ option_part_syntax c.in_ok-part.part ∷ [] =
    ap (map option_part_syntax) c.in_ok-push-2.ensures.items
    ∙ map_push option_part_syntax c.others.parts.items c.in_ok-part.part in
    one_more (map option_part_syntax c.others.parts.items) _ (c.others.room - 1) c.others.room
    (left c.others.tokens) (omega arith) c.others.invariant
    (sym c.sees_symbol.ensures ∙ c.if-not-sees_symbol.false) _
    (option_part_syntax c.in_ok-part.part) (left c.next_part.new.tokens) c.in_ok-part.ensures e

pub returns-then-not-sees_symbol : goal.returns-then-not-sees_symbol
returns-then-not-sees_symbol c =
    ends_here (map option_part_syntax c.others.parts.items) _ c.others.room (left c.others.tokens)
    (left c.others.tokens) c.others.invariant
    (parts_end c.others.room (left c.others.tokens)
    (sym c.sees_symbol.ensures ∙ c.if-not-sees_symbol.true))

pub returns-in_err-part : goal.returns-in_err-part
returns-in_err-part c =
    let p = err_from_is_err_and c.from_residual-in_err-part.result
    c.from_residual-in_err-part.ensures.1 in
    rw (p.1, p.2)
    (inl (fails_at_part (map option_part_syntax c.others.parts.items) _
    (c.others.room - 1) c.others.room (left c.others.tokens) (omega arith) c.others.invariant
    (sym c.sees_symbol.ensures ∙ c.if-not-sees_symbol.false) c.in_err-part.field-0.0
    (left c.next_part.new.tokens) c.in_err-part.ensures))
