use Rattle.std.proofs.Common.{map, take, ◌++◌}
use Rattle.std.specs.Borrow.{Bor}
use Rattle.protobuf_parse_model.specs.declared.descriptor.FieldDescriptorProto.{FieldDescriptorProto}
use Rattle.protobuf_parse_model.specs.Descriptors.{field_view}
use Rattle.protobuf_parse_wire.specs.Indexed.{IsByNumber}
use Rattle.protobuf_parse_wire.proofs.reader.numbers.by_number.Given as goal

abbrev pub invariant-fields : goal.invariant-fields
invariant-fields l = IsByNumber l.numbers (map field_view (take l.field-index l.fields))

abbrev pub invariant-extensions : goal.invariant-extensions
invariant-extensions l =
    IsByNumber l.numbers
    (map field_view l.fields ++ map (λ (f : Bor FieldDescriptorProto). field_view f.now)
    (take l.extension-index l.extensions))
