use Rattle.std.proofs.Common.{◌≡◌, List, ℕ, drop, map}
use Rattle.std.specs.BTreeMap.{get_by_text}
use Rattle.std.specs.Option.{option_or}
use Rattle.protobuf_parse_model.specs.Descriptors.{field_view}
use Rattle.protobuf_parse_options.specs.Spots.{field_name}
use Rattle.protobuf_parse_options.specs.Positions.{position_from}
use Rattle.protobuf_parse_options.proofs.spots.parts.positions_of_fields.Given as goal

abbrev pub invariant-loop-index : goal.invariant-loop-index
invariant-loop-index l =
    (name : List ℕ) → position_from 0 (map field_name (map field_view l.fields)) name
    ≡ option_or (get_by_text l.positions name) (position_from l.index
    (map field_name (map field_view (drop l.index l.fields))) name)
