-- The keys so far are those of the names so far.
use Rattle.std.proofs.Common.{◌≡◌, ◌++◌, map, take}
use Rattle.protobuf_parse_model.specs.Descriptors.{method_view}
use Rattle.protobuf_parse_rules.specs.Keys.{method_keys}
use Rattle.protobuf_parse_rules.proofs.name_keys.add_methods.Given as goal

abbrev pub invariant-methods : goal.invariant-methods
invariant-methods l = l.keys.items
    ≡ l.fn.keys.items ++ method_keys l.inside (map method_view (take l.method-index l.methods))
