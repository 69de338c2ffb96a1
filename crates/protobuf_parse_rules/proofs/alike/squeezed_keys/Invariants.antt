-- The keys so far are those of the names so far.
use Rattle.std.proofs.Common.{◌≡◌, map, take}
use Rattle.protobuf_parse_model.specs.Descriptors.{field_view}
use Rattle.protobuf_parse_rules.specs.Alike.{Spelled, spelled_field}
use Rattle.protobuf_parse_rules.specs.Keys.{text_key}
use Rattle.protobuf_parse_rules.proofs.alike.squeezed_keys.Given as goal

abbrev pub invariant-fields : goal.invariant-fields
invariant-fields l = l.keys.items ≡ map (λ (s : Spelled). text_key s.key)
    (map spelled_field (map field_view (take l.field-index l.fields)))
