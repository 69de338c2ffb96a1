use Rattle.std.proofs.Common.{◌≡◌, ◌∙◌, ◌+◌, ◌++◌, ◌∷◌, [], ap, sym, get_or, map, take}
use Rattle.std.proofs.lemmas.List.{map_more, map-append}
use Rattle.std.proofs.lemmas.Map.Text.{is_eq-slice_cmp}
use Rattle.protobuf_parse_text_rules.specs.OptionViews.{named_view}
use Rattle.protobuf_parse_text_rules.specs.Options.{NamedOption, stands_in}
use Rattle.protobuf_parse_text_rules.specs.Views.{told}
use Rattle.protobuf_parse_text_rules.proofs.Twice.{names_of, not_not, seen_more, stands_in-push}
use Rattle.protobuf_parse_text_rules.proofs.Twice.{told_more}
use Rattle.protobuf_parse_text_rules.proofs.options.tell_twice.Goals as goal

pub options-preserved : goal.options-preserved
options-preserved c =
    let options = c.args.options.now in
    let i = c.options.option-index in
    let x = get_or options i (record {
      place = record { line = 0; col = 0 };
      name = record { ref_ptr = (0, 0); now = [] };
    }) in
    let before = map named_view (take i options) in
    let more : map named_view (take (i + 1) options) ≡ before ++ named_view x ∷ [] =
    map_more named_view options i _ c.options-test.true in
    record {
      told = told_more (told c.args.found.now) (told c.options.found)
          (told c.tell_if.new.found) before (map named_view (take (i + 1) options))
          (named_view x) _ c.options.invariant.told c.in_ok-tell_if.ensures
          (not_not _ _ c.in_ok-is_new.ensures.added ∙ c.options.invariant.seen x.name) more;
      seen = λ q. seen_more _ _ _ _ _ (c.in_ok-is_new.ensures.updates.0 q)
          (is_eq-slice_cmp x.name.now q.now) (c.options.invariant.seen q)
          ∙ sym (ap (λ ns. stands_in q.now (names_of ns)) more
          ∙ ap (stands_in q.now)
          (map-append (λ (n : NamedOption). n.name) before (named_view x ∷ []))
          ∙ stands_in-push q.now x.name.now (names_of before));
    }
