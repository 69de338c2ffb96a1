use Rattle.std.proofs.Common.{◌≡◌, map, take}
use Rattle.std.specs.Prelude.{string_bytes}
use Rattle.protobuf_parse.specs.Includes.{part_views}
use Rattle.protobuf_parse.proofs.parser.files.copy_texts.Given as goal

abbrev pub invariant-loop-text : goal.invariant-loop-text
invariant-loop-text l = map string_bytes l.copies.items ≡ part_views (take l.text-index l.texts)
