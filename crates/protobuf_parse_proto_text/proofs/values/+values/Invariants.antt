use Rattle.std.proofs.Common.{◌≡◌, ◌++◌, map, take, flat_map}
use Rattle.std.specs.Prelude.{string_bytes}
use Rattle.protobuf_parse_model.specs.Descriptors.{file_view}
use Rattle.protobuf_parse_wire.specs.Views.{read_field_view}
use Rattle.protobuf_parse_proto_text.proofs.ValueTexts.{field_text}
use Rattle.protobuf_parse_proto_text.proofs.values.+values.Given as goal

abbrev pub invariant-put_inner-fields : goal.invariant-put_inner-fields
invariant-put_inner-fields l =
    string_bytes l.text ≡ string_bytes l.fn.text
    ++ flat_map (field_text (map file_view l.index) l.message)
    (map read_field_view (take l.read-index l.fields))
