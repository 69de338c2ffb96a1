use Rattle.std.proofs.Common.{◌≡◌, ◌++◌, ℤ, [], map, take}
use Rattle.protobuf_parse_text_rules.specs.Views.{told}
use Rattle.protobuf_parse_name_rules.specs.Constants.{given_twice, is_among, numbers, oneofs}
use Rattle.protobuf_parse_name_rules.specs.InnerViews.{given_view, has_number}
use Rattle.protobuf_parse_name_rules.proofs.given.tell_twice.Given as goal

abbrev pub invariant-given : goal.invariant-given
invariant-given l =
    let before = map given_view (take l.one-index l.given) in
    record {
      told : told l.found ≡ told l.fn.found ++ given_twice l.place [] before;
      numbers : (n : ℤ) → has_number l.numbers n ≡ is_among n (numbers before);
      oneofs : (i : ℤ) → has_number l.oneofs i ≡ is_among i (oneofs before);
    }
