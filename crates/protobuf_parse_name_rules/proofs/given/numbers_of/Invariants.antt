use Rattle.std.proofs.Common.{◌≡◌, ℤ, map, take}
use Rattle.protobuf_parse_name_rules.specs.Constants.{is_among, numbers}
use Rattle.protobuf_parse_name_rules.specs.InnerViews.{given_view, has_number}
use Rattle.protobuf_parse_name_rules.proofs.given.numbers_of.Given as goal

abbrev pub invariant-given : goal.invariant-given
invariant-given l = (n : ℤ) → has_number l.numbers n
    ≡ is_among n (numbers (map given_view (take l.one-index l.given)))
