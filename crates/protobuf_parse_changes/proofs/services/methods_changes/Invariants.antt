use Rattle.std.proofs.Common.{◌≡◌, ◌++◌, flat_map, map, take}
use Rattle.protobuf_parse_model.specs.Descriptors.{file_view, method_view}
use Rattle.protobuf_parse_changes.specs.Services.{method_changes}
use Rattle.protobuf_parse_changes.specs.Views.{place_view, told}
use Rattle.protobuf_parse_changes.proofs.services.methods_changes.Given as goal

abbrev pub invariant-methods : goal.invariant-methods
invariant-methods l = told l.changes ≡ told l.fn.changes
    ++ flat_map (method_changes (map file_view l.new_index) (place_view l.at))
    (map method_view (take l.method-index l.methods))
