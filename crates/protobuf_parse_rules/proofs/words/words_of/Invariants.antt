use Rattle.std.proofs.Common.{◌≡◌, map, take, string_bytes}
use Rattle.protobuf_parse_rules.specs.Sets.{texts_of}
use Rattle.protobuf_parse_rules.proofs.words.words_of.Given as goal

abbrev pub invariant-texts : goal.invariant-texts
invariant-texts l = texts_of l.words.items ≡ map string_bytes (take l.text-index l.texts)
