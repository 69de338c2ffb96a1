use Rattle.std.proofs.Common.{◌≡◌, ◌++◌, ℕ, List, [], map, take, Bor}
use Rattle.std.specs.BTreeSet.{contains}
use Rattle.std.specs.Cmp.Lexicographic.{slice_cmp}
use Rattle.std.specs.Ordering.{nat_cmp}
use Rattle.protobuf_parse_text_rules.specs.OptionViews.{named_view}
use Rattle.protobuf_parse_text_rules.specs.Options.{set_twice, stands_in}
use Rattle.protobuf_parse_text_rules.specs.Views.{told}
use Rattle.protobuf_parse_text_rules.proofs.Twice.{names_of}
use Rattle.protobuf_parse_text_rules.proofs.options.tell_twice.Given as goal

abbrev pub invariant-options : goal.invariant-options
invariant-options l =
    let before = map named_view (take l.option-index l.options) in
    record {
      told : told l.found ≡ told l.fn.found ++ set_twice [] before;
      seen : (q : Bor (List ℕ))
          → contains (λ (a b : Bor (List ℕ)). slice_cmp nat_cmp a.now b.now) l.seen q
          ≡ stands_in q.now (names_of before);
    }
