use Rattle.std.proofs.Common.{◌≡◌, ◌++◌, map, Ok}
use Rattle.protobuf_parse_model.specs.Descriptors.{file_view}
use Rattle.protobuf_parse_wire.specs.Views.{read_field_view}
use Rattle.protobuf_parse_index.specs.Options.{name_each, named_option_view}
use Rattle.protobuf_parse_index.proofs.options.named.Given as goal

abbrev pub invariant-fields : goal.invariant-fields
invariant-fields l =
    (goal.iterator-fields).can_next l.field-iterator ×
    (goal.iterator-fields).is_finite l.field-iterator ×
    (l.fn.read.items ≡ l.yielded ++ l.field-iterator.rest.items) ×
    (name_each (map file_view l.index) l.message (map read_field_view l.yielded)
    ≡ Ok (map named_option_view l.options.items))
