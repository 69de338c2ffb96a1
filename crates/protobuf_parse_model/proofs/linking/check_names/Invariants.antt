use Rattle.std.proofs.Common.{◌≡◌, [], map, take, flat_map, string_bytes}
use Rattle.protobuf_parse_model.specs.TableParts.{name_faults}
use Rattle.protobuf_parse_model.proofs.linking.check_names.Given as goal

abbrev pub invariant-loop-name : goal.invariant-loop-name
invariant-loop-name l = flat_map (name_faults l.seen) (map string_bytes (take l.name-index l.names))
    ≡ []
