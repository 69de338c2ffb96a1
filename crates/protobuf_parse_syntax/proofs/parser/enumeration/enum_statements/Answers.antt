use Rattle.std.proofs.Common.{List, map, refl, sym, ◌∙◌}
use Rattle.std.proofs.lemmas.Result.{err_from_is_err_and}
use Rattle.protobuf_parse_grammar.specs.Relations.{somes}
use Rattle.protobuf_parse_grammar.specs.Combinators.{shorter}
use Rattle.protobuf_parse_grammar.specs.Loops.{shows_somes, goes_on, stops_here}
use Rattle.protobuf_parse_lexer.specs.Text.{seen_by}
use Rattle.protobuf_parse_syntax.specs.Trees.{enum_statement_syntax, EnumStatementSyntax}
use Rattle.protobuf_parse_syntax.specs.Nested as nest
use Rattle.protobuf_parse_syntax.specs.Code.{left}
use Rattle.protobuf_parse_syntax.proofs.Loops.{pushed, fails}
use Rattle.protobuf_parse_syntax.proofs.parser.enumeration.enum_statements.Goals as goal

pub returns-in_err-item : goal.returns-in_err-item
returns-in_err-item c =
    let p = err_from_is_err_and c.from_residual.result c.from_residual.ensures.1 in
    rw (p.1, p.2)
    (fails (nest.enum_item c.args.levels).low refl somes shows_somes
    (λ (v : List EnumStatementSyntax). v) (map enum_statement_syntax c.items.body.items)
    (left c.items.tokens) (left c.enum_item.new.tokens) c.in_err-item.field-0.0 _
    (sym c.begins_enum_item.ensures ∙ c.items-test.true) c.in_err-item.ensures
    c.items.invariant)

pub items-smaller : goal.items-smaller
items-smaller c = shorter (nest.enum_item c.args.levels).low refl (left c.items.tokens)
    (seen_by enum_statement_syntax c.in_ok-item.item)
    (left c.enum_item.new.tokens) c.in_ok-item.ensures

pub items-preserved : goal.items-preserved
items-preserved c =
    goes_on (nest.enum_item c.args.levels).low refl somes shows_somes
    (λ (v : List EnumStatementSyntax). v) (map enum_statement_syntax c.items.body.items) _
    (left c.items.tokens) (seen_by enum_statement_syntax c.in_ok-item.item)
    (left c.enum_item.new.tokens) _
    (sym c.begins_enum_item.ensures ∙ c.items-test.true) c.in_ok-item.ensures
    (pushed enum_statement_syntax c.items.body.items c.push_some.new.list.items c.in_ok-item.item
    c.in_ok-push_some.ensures) c.items.invariant

pub returns : goal.returns
returns c = stops_here (nest.enum_item c.args.levels).low refl somes shows_somes
    (λ (v : List EnumStatementSyntax). v) (map enum_statement_syntax c.items.body.items)
    (left c.items.tokens) _ (sym c.begins_enum_item.ensures ∙ c.items-test.false) c.items.invariant
