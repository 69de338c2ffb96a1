use Rattle.std.proofs.Common.{List, subst, sym}
use Rattle.protobuf_parse_model.specs.Descriptors.{Text, method_view}
use Rattle.protobuf_parse_rules.specs.Imports.{method_types}
use Rattle.protobuf_parse_rules.specs.KnownUses.{AddsNames}
use Rattle.protobuf_parse_rules.proofs.Linking.{names_more, names_none}
use Rattle.protobuf_parse_rules.proofs.Lists.{joined_one_more}
use Rattle.protobuf_parse_rules.proofs.links.add_methods.Goals as goal

pub methods-init : goal.methods-init
methods-init c = λ all knows. names_none all c.args.links.now c.args.from.now

pub methods-preserved : goal.methods-preserved
methods-preserved c = λ all knows.
    subst (λ (ns : List Text). AddsNames all c.args.links.now c.add_method.new.links c.args.from.now
    ns)
    (sym (joined_one_more method_types method_view c.args.methods.now c.methods.method-index
    c.method-item.result c.methods-test.true c.method-item.is))
    (names_more all _ _ _ _ _ _ (c.methods.invariant all knows)
    (c.in_ok-add_method.ensures all knows))
