use Rattle.std.proofs.Common.{List, subst, sym}
use Rattle.protobuf_parse_model.specs.Descriptors.{Text, field_view}
use Rattle.protobuf_parse_rules.specs.Imports.{field_types}
use Rattle.protobuf_parse_rules.specs.KnownUses.{AddsNames}
use Rattle.protobuf_parse_rules.proofs.Linking.{names_more, names_none}
use Rattle.protobuf_parse_rules.proofs.Lists.{joined_one_more}
use Rattle.protobuf_parse_rules.proofs.links.add_fields.Goals as goal

pub fields-init : goal.fields-init
fields-init c = λ all knows. names_none all c.args.links.now c.args.from.now

pub fields-preserved : goal.fields-preserved
fields-preserved c = λ all knows.
    subst (λ (ns : List Text). AddsNames all c.args.links.now c.add_field.new.links c.args.from.now
    ns)
    (sym (joined_one_more field_types field_view c.args.fields.now c.fields.field-index
    c.field-item.result c.fields-test.true c.field-item.is))
    (names_more all _ _ _ _ _ _ (c.fields.invariant all knows)
    (c.in_ok-add_field.ensures all knows))
