use Rattle.std.specs.Prelude.{encode_utf8_all}
use Rattle.std.proofs.Common.{◌≡◌, ◌++◌, length, drop, None}
use Rattle.std.specs.Str.{chars}
use Rattle.std.specs.String.{string_bytes}
use Rattle.protobuf_parse_index.specs.Spellings.{spelled}
use Rattle.protobuf_parse_index.proofs.Spelled.{spelled_rest}
use Rattle.protobuf_parse_index.proofs.spellings.spelled.Given as goal

abbrev pub invariant-characters : goal.invariant-characters
invariant-characters l =
    string_bytes l.text ++ encode_utf8_all
    (spelled_rest l.upper l.before l.held (drop (length l.yielded) (chars l.name)))
    ≡ encode_utf8_all (spelled l.upper None (chars l.name))
