-- The keys so far are those of the names so far.
use Rattle.std.proofs.Common.{◌≡◌, map, take}
use Rattle.protobuf_parse_rules.specs.Keys.{name_key}
use Rattle.protobuf_parse_rules.specs.KnownNames.{named_view}
use Rattle.protobuf_parse_rules.proofs.name_keys.keys_of.Given as goal

abbrev pub invariant-names : goal.invariant-names
invariant-names l = l.keys.items
    ≡ map name_key (map named_view (take l.named-index l.names))
