use Rattle.std.proofs.lemmas.Result.{err_from_is_err_and}
use Rattle.protobuf_parse_syntax.specs.Nested as nest
use Rattle.protobuf_parse_syntax.specs.Trees.{type_syntax}
use Rattle.protobuf_parse_syntax.specs.Code.{left, fails_first}
use Rattle.protobuf_parse_syntax.proofs.OptionFaults.{fails_field_options}
use Rattle.protobuf_parse_syntax.proofs.Wrongs.{fails_from_first}
use Rattle.protobuf_parse_syntax.proofs.parser.field.after_type.Goals as goal

pub returns-in_err-name : goal.returns-in_err-name
unfolding nest.after_type_parts
returns-in_err-name c =
    let p = err_from_is_err_and c.from_residual.result c.from_residual.ensures.1 in
    rw (p.1, p.2)
    (fails_from_first
    (nest.after_type_parts c.args.levels c.args.place c.args.label (type_syntax c.args.type_)).low
    c.in_err-name.field-0.0 (left c.args.tokens.now) _
    (fails_first c.in_err-name.field-0.0 _ _ _ c.in_err-name.ensures))

pub returns-in_err-symbol : goal.returns-in_err-symbol
unfolding nest.after_type_parts
returns-in_err-symbol c =
    let p = err_from_is_err_and c.from_residual-in_err-symbol.result
    c.from_residual-in_err-symbol.ensures.1 in
    rw (p.1, p.2)
    (fails_from_first
    (nest.after_type_parts c.args.levels c.args.place c.args.label (type_syntax c.args.type_)).low
    c.in_err-symbol.field-0.0 (left c.args.tokens.now) _
    (rw c.in_ok-name.ensures
    (fails_first c.in_err-symbol.field-0.0 _ _ _ c.in_err-symbol.ensures)))

pub returns-in_err-number : goal.returns-in_err-number
unfolding nest.after_type_parts
returns-in_err-number c =
    let p = err_from_is_err_and c.from_residual-in_err-number.result
    c.from_residual-in_err-number.ensures.1 in
    rw (p.1, p.2)
    (fails_from_first
    (nest.after_type_parts c.args.levels c.args.place c.args.label (type_syntax c.args.type_)).low
    c.in_err-number.field-0.0 (left c.args.tokens.now) _
    (rw (c.in_ok-name.ensures, c.in_ok-symbol.ensures)
    (fails_first c.in_err-number.field-0.0 _ _ _ c.in_err-number.ensures)))

pub returns-in_err-options : goal.returns-in_err-options
returns-in_err-options c =
    let p = err_from_is_err_and c.from_residual-in_err-options.result
    c.from_residual-in_err-options.ensures.1 in
    rw (p.1, p.2)
    (fails_field_options c.args.levels c.in_err-options.field-0.0 (left c.args.tokens.now)
    (left c.ident_name.new.self) (left c.symbol.new.self) (left c.field_number.new.self)
    (left c.options.new.tokens) _ _ c.args.place c.args.label (type_syntax c.args.type_)
    c.in_ok-name.ensures c.in_ok-symbol.ensures c.in_ok-number.ensures c.in_err-options.ensures)

pub returns-in_err-symbol-2 : goal.returns-in_err-symbol-2
unfolding nest.after_type_parts
returns-in_err-symbol-2 c =
    let p = err_from_is_err_and c.from_residual-in_err-symbol-2.result
    c.from_residual-in_err-symbol-2.ensures.1 in
    rw (p.1, p.2)
    (fails_from_first
    (nest.after_type_parts c.args.levels c.args.place c.args.label (type_syntax c.args.type_)).low
    c.in_err-symbol-2.field-0.0 (left c.args.tokens.now) _
    (rw (
      c.in_ok-name.ensures,
      c.in_ok-symbol.ensures,
      c.in_ok-number.ensures,
      c.in_ok-options.ensures,
    ) (fails_first c.in_err-symbol-2.field-0.0 _ _ _ c.in_err-symbol-2.ensures)))
