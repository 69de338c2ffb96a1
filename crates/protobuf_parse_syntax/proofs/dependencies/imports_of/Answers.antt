-- Each turn looks at the next statement.
use Rattle.std.proofs.Common.{map, take, sym, ap, ◌∙◌, arith, rules}
use Rattle.std.proofs.lemmas.List.{length-map, length-take-le}
use Rattle.protobuf_parse_syntax.specs.Dependencies.{FileImports, dependencies_of}
use Rattle.protobuf_parse_syntax.specs.ImportSteps.{with_statement}
use Rattle.protobuf_parse_syntax.specs.Trees.{statement_syntax}
use Rattle.protobuf_parse_syntax.proofs.Formats.{views-more}
use Rattle.protobuf_parse_syntax.proofs.Imports.{dependencies-more, dependencies-few}
use Rattle.protobuf_parse_syntax.proofs.dependencies.imports_of.Goals as goal

pub push_statement-requires : goal.push_statement-requires
push_statement-requires c =
    let before = take c.loop-statement.statement-index c.args.statements.now in
    let few = dependencies-few c.loop-statement.found
    (map statement_syntax before) c.loop-statement.invariant in
    omega (
      arith,
      few,
      length-map before statement_syntax,
      length-take-le c.loop-statement.statement-index c.args.statements.now (omega arith),
      c.requires,
    )

pub loop-statement-preserved : goal.loop-statement-preserved
loop-statement-preserved c =
    let statement = c.statement-item.result in
    let before = map statement_syntax (take c.loop-statement.statement-index c.args.statements.now)
    in
    c.in_ok-push_statement.ensures
    ∙ (ap (λ (found : FileImports). with_statement found (statement_syntax statement))
    c.loop-statement.invariant
    ∙ (sym (dependencies-more before (statement_syntax statement))
    ∙ ap dependencies_of
    (views-more statement_syntax c.args.statements.now c.loop-statement.statement-index statement
    (search rules) c.statement-item.is)))
