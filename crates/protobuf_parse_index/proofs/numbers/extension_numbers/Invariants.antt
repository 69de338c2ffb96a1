use Rattle.std.proofs.Common.{map, take}
use Rattle.protobuf_parse_index.specs.Kept.{HasExtensions}
use Rattle.protobuf_parse_index.specs.Views.{standing_extension}
use Rattle.protobuf_parse_index.proofs.numbers.extension_numbers.Given as goal

abbrev pub invariant-extensions : goal.invariant-extensions
invariant-extensions l =
    HasExtensions l.numbers (map standing_extension (take l.at l.extensions))
