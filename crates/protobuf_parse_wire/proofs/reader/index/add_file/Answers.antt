use Rattle.std.proofs.Common.{map, ap, ◌∙◌}
use Rattle.std.proofs.lemmas.Result.{on_ok_weaker}
use Rattle.protobuf_parse_model.specs.Descriptors.{field_view, file_view, message_view}
use Rattle.protobuf_parse_wire.proofs.Adding.{file_added}
use Rattle.protobuf_parse_wire.proofs.reader.index.add_file.Goals as goal

pub returns : goal.returns
returns c =
    on_ok_weaker c.add_extensions.result
    (λ second. file_added (file_view c.args.file.now) c.deref.result.now
    (map message_view c.deref-2.result.now)
    (map field_view c.deref-3.result.now) c.args.index.now c.add_messages.new.index
    c.add_extensions.new.index (c.deref.ensures ∙ c.in_ok-scope.ensures)
    (ap (map message_view) c.deref-2.ensures.value)
    (ap (map field_view) c.deref-3.ensures.value) c.in_ok-add_messages.ensures second)
    c.add_extensions.ensures
