use Rattle.std.proofs.Common.{◌+◌, map, take}
use Rattle.std.specs.Prelude.{bytes_eq}
use Rattle.protobuf_parse_syntax.specs.Trees.{service_statement_syntax}
use Rattle.protobuf_parse_model.specs.Descriptors.{Text}
use Rattle.protobuf_parse_name_rules.specs.Names.{method_name}
use Rattle.protobuf_parse_name_rules.proofs.Sets.{any_next, map_item}
use Rattle.protobuf_parse_name_rules.proofs.services.methods_of.Goals as goal

pub body-preserved : goal.body-preserved
body-preserved c = λ name.
    let body = c.args.body.now in
    let i = c.body.statement-index in
    let x = c.statement-item.result in
    any_next (λ (y : Text). bytes_eq y name) method_name
    (map service_statement_syntax (take i body)) (map service_statement_syntax (take (i + 1) body))
    (service_statement_syntax x) _ _ (c.in_ok-add_method.ensures name) (c.body.invariant name)
    (map_item service_statement_syntax body i x c.body-test.true c.statement-item.is)
