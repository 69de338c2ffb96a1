-- The keys so far are those of the names so far.
use Rattle.std.proofs.Common.{◌≡◌, map, take}
use Rattle.protobuf_parse_model.specs.ByHash.{hash_of}
use Rattle.protobuf_parse_model.specs.Descriptors.{FieldDescriptor, field_view}
use Rattle.protobuf_parse_rules.proofs.json_names.keys_of.Given as goal

abbrev pub invariant-fields : goal.invariant-fields
invariant-fields l = l.keys.items
    ≡ map (λ (f : FieldDescriptor). hash_of f.json_name)
    (map field_view (take l.field-index l.fields))
