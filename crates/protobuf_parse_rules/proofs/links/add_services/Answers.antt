use Rattle.std.proofs.Common.{List, flat_map, map, subst, sym}
use Rattle.protobuf_parse_model.specs.Descriptors.{Text, method_view, service_view}
use Rattle.protobuf_parse_model.specs.declared.descriptor.MethodDescriptorProto.{MethodDescriptorProto}
use Rattle.protobuf_parse_rules.specs.Imports.{method_types, service_types}
use Rattle.protobuf_parse_rules.specs.KnownUses.{AddsNames}
use Rattle.protobuf_parse_rules.proofs.Linking.{names_more, names_none}
use Rattle.protobuf_parse_rules.proofs.Lists.{joined_one_more}
use Rattle.protobuf_parse_rules.proofs.links.add_services.Goals as goal

pub services-init : goal.services-init
services-init c = λ all knows. names_none all c.args.links.now c.args.from.now

pub services-preserved : goal.services-preserved
services-preserved c = λ all knows.
    subst (λ (ns : List Text). AddsNames all c.args.links.now c.add_methods.new.links
    c.args.from.now ns)
    (sym (joined_one_more service_types service_view c.args.services.now c.services.service-index
    c.service-item.result c.services-test.true c.service-item.is))
    (names_more all _ _ _ _ _ _ (c.services.invariant all knows)
    (subst (λ (ms : List MethodDescriptorProto). AddsNames all c.services.links
    c.add_methods.new.links c.args.from.now (flat_map method_types (map method_view ms)))
    c.deref.ensures.value (c.in_ok-add_methods.ensures all knows)))
