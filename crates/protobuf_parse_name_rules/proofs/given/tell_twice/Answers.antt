use Rattle.std.proofs.Common.{◌+◌, map, take}
use Rattle.protobuf_parse_text_rules.specs.Views.{told}
use Rattle.protobuf_parse_name_rules.specs.Constants.{is_of_oneof}
use Rattle.protobuf_parse_name_rules.specs.InnerViews.{given_view, has_number}
use Rattle.protobuf_parse_name_rules.proofs.Sets.{map_item}
use Rattle.protobuf_parse_name_rules.proofs.Twice.{given_number, given_oneof, of_oneof_same}
use Rattle.protobuf_parse_name_rules.proofs.Twice.{told_more}
use Rattle.protobuf_parse_name_rules.proofs.given.tell_twice.Goals as goal

pub given-preserved : goal.given-preserved
given-preserved c =
    let given = c.args.given.now in
    let i = c.given.one-index in
    let g = given_view c.one-item.result in
    let before = map given_view (take i given) in
    let after = map given_view (take (i + 1) given) in
    let more = map_item given_view given i c.one-item.result c.given-test.true c.one-item.is in
    record {
      told = told_more c.args.place (told c.args.found.now) (told c.given.found)
          (told c.tell_again.new.found) before after g c.in_ok-is_new.is_new
          c.in_ok-is_first.is_first (has_number c.given.numbers g.field.number)
          (is_of_oneof (has_number c.given.oneofs) g.field.oneof_index) c.given.invariant.told
          c.in_ok-tell_again.ensures c.in_ok-is_new.ensures.first c.in_ok-is_first.ensures.first
          (c.given.invariant.numbers g.field.number)
          (of_oneof_same _ _ g.field.oneof_index c.given.invariant.oneofs) more;
      numbers = λ n.
          given_number n before after g _ _ (c.in_ok-is_new.ensures.set n)
          (c.given.invariant.numbers n) more;
      oneofs = λ n.
          given_oneof n before after g _ _ (c.in_ok-is_first.ensures.set n)
          (c.given.invariant.oneofs n) more;
    }
