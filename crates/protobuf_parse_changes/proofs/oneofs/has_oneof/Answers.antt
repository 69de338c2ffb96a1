use Rattle.std.proofs.Common.{◌∙◌, List, sym, ap, rules, tests}
use Rattle.std.specs.List.{list_any}
use Rattle.std.proofs.lemmas.Iterator.{YieldsList-from_slice}
use Rattle.std.proofs.lemmas.Iterator.Search.{any_from_yields_List}
use Rattle.protobuf_parse_model.specs.Descriptors.{MessageParts, field_view, message_view}
use Rattle.protobuf_parse_model.specs.declared.descriptor.DescriptorProto.{out-DescriptorProto}
use Rattle.protobuf_parse_model.specs.declared.descriptor.FieldDescriptorProto.{FieldDescriptorProto}
use Rattle.protobuf_parse_index.proofs.Walked.{parts_are}
use Rattle.protobuf_parse_changes.specs.Oneofs.{stands_in}
use Rattle.protobuf_parse_changes.proofs.Lists.{list_any_map}
use Rattle.protobuf_parse_changes.proofs.oneofs.has_oneof.Goals as goal

pub returns : goal.returns
returns c =
    let m = c.args.message.now in
    let test = stands_in (message_view m) c.args.name.now in
    let fields : List FieldDescriptorProto = (out-DescriptorProto m).field.items in
    any_from_yields_List (λ (f : FieldDescriptorProto). test (field_view f)) _ _ _
    c.any.ensures.ran
    (YieldsList-from_slice fields (cc)) (λ x b q k. search (rules, tests))
    ∙ list_any_map field_view test fields
    ∙ ap (λ (p : MessageParts). list_any test p.field) (sym (parts_are m))
