use Rattle.std.proofs.Common.{Option, Some, map, subst}
use Rattle.protobuf_parse_model.specs.Descriptors.{Text, file_view}
use Rattle.protobuf_parse_wire.specs.Reading.{ReaderGives, WireRead, FieldsByNumber, message_at}
use Rattle.protobuf_parse_wire.specs.Views.{read_field_view}
use Rattle.protobuf_parse_wire.proofs.Distinct.{entered_is}
use Rattle.protobuf_parse_wire.proofs.reader.read_named.Goals as goal

pub returns : goal.returns
returns c =
    let same = entered_is (map file_view c.args.files.now) c.in_ok-index.index c.in_ok-index.ensures
    in
    subst (λ (enter : Option Text → WireRead FieldsByNumber). ReaderGives
    (λ v. map read_field_view v.items) c.message_of.result
    (message_at enter 256 (Some c.args.name.now) c.args.bytes.now)) same
    c.message_of.ensures.gives
