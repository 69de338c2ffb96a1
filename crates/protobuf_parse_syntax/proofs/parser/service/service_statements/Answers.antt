use Rattle.std.proofs.Common.{List, map, refl, sym, ◌∙◌}
use Rattle.std.proofs.lemmas.Result.{err_from_is_err_and}
use Rattle.protobuf_parse_grammar.specs.Relations.{somes}
use Rattle.protobuf_parse_grammar.specs.Combinators.{shorter}
use Rattle.protobuf_parse_grammar.specs.Loops.{shows_somes, goes_on, stops_here}
use Rattle.protobuf_parse_lexer.specs.Text.{seen_by}
use Rattle.protobuf_parse_syntax.specs.Trees.{service_statement_syntax, ServiceStatementSyntax}
use Rattle.protobuf_parse_syntax.specs.Nested as nest
use Rattle.protobuf_parse_syntax.specs.Code.{left}
use Rattle.protobuf_parse_syntax.proofs.Loops.{pushed, fails}
use Rattle.protobuf_parse_syntax.proofs.Versions.{service_items_run}
use Rattle.protobuf_parse_syntax.proofs.parser.service.service_statements.Goals as goal

pub items-init : goal.items-init
items-init c = rw c.new-body.ensures.items
    (service_items_run c.args.syntax c.args.levels (left c.args.tokens.now))

pub returns-in_err-item : goal.returns-in_err-item
returns-in_err-item c =
    let p = err_from_is_err_and c.from_residual.result c.from_residual.ensures.1 in
    rw (p.1, p.2)
    (fails (nest.service_item c.args.syntax c.args.levels).low refl somes shows_somes
    (λ (v : List ServiceStatementSyntax). v) (map service_statement_syntax c.items.body.items)
    (left c.items.tokens) (left c.service_item.new.tokens) c.in_err-item.field-0.0 _
    (sym c.begins_service_statement.ensures ∙ c.items-test.true) c.in_err-item.ensures
    c.items.invariant)

pub items-smaller : goal.items-smaller
items-smaller c = shorter (nest.service_item c.args.syntax c.args.levels).low refl
    (left c.items.tokens) (seen_by service_statement_syntax c.in_ok-item.item)
    (left c.service_item.new.tokens) c.in_ok-item.ensures

pub items-preserved : goal.items-preserved
items-preserved c =
    goes_on (nest.service_item c.args.syntax c.args.levels).low refl somes shows_somes
    (λ (v : List ServiceStatementSyntax). v) (map service_statement_syntax c.items.body.items) _
    (left c.items.tokens) (seen_by service_statement_syntax c.in_ok-item.item)
    (left c.service_item.new.tokens) _
    (sym c.begins_service_statement.ensures ∙ c.items-test.true) c.in_ok-item.ensures
    (pushed service_statement_syntax c.items.body.items c.push_some.new.list.items
    c.in_ok-item.item c.in_ok-push_some.ensures) c.items.invariant

pub returns : goal.returns
returns c = stops_here (nest.service_item c.args.syntax c.args.levels).low refl somes shows_somes
    (λ (v : List ServiceStatementSyntax). v) (map service_statement_syntax c.items.body.items)
    (left c.items.tokens) _ (sym c.begins_service_statement.ensures ∙ c.items-test.false)
    c.items.invariant
