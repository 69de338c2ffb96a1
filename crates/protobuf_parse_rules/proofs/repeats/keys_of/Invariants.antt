-- The keys so far are those of the texts so far.
use Rattle.std.proofs.Common.{◌≡◌, map, take, string_bytes}
use Rattle.protobuf_parse_rules.specs.Keys.{text_key}
use Rattle.protobuf_parse_rules.proofs.repeats.keys_of.Given as goal

abbrev pub invariant-texts : goal.invariant-texts
invariant-texts l = l.keys.items ≡ map text_key (map string_bytes (take l.text-index l.texts))
