-- The text so far and the words that are left are the whole.
use Rattle.std.specs.Prelude.{encode_utf8_all}
use Rattle.std.proofs.Common.{◌≡◌, ◌++◌, length, drop, false}
use Rattle.std.specs.Str.{chars}
use Rattle.std.specs.String.{string_bytes}
use Rattle.protobuf_parse_base.specs.Cases.{split_words}
use Rattle.protobuf_parse_base.proofs.text.snake_case.Given as goal

abbrev pub invariant-loop-character : goal.invariant-loop-character
invariant-loop-character l =
    string_bytes l.split ++ encode_utf8_all
    (split_words l.after_lower (drop (length l.yielded) (chars l.name)))
    ≡ encode_utf8_all (split_words false (chars l.name))
