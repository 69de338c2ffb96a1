use Rattle.std.proofs.Common.{◌≡◌, ◌∙◌, ◌+◌, ◌++◌, ◌∷◌, [], ap, sym, get_or, take}
use Rattle.std.proofs.lemmas.List.{map_more, map-append}
use Rattle.std.proofs.lemmas.Map.Text.{is_eq-slice_cmp}
use Rattle.protobuf_parse_model.specs.Duplicates.{NamedAt, stands_in}
use Rattle.protobuf_parse_model.specs.Faults.{found}
use Rattle.protobuf_parse_elaboration.specs.Declaring.{name_at, names_at}
use Rattle.protobuf_parse_elaboration.proofs.Repeats.{stands_in-push}
use Rattle.protobuf_parse_elaboration.proofs.Told.{names_of, not_not, seen_more, told_more}
use Rattle.protobuf_parse_elaboration.proofs.constructs.told.tell_repeats.Goals as goal

pub loop-named-preserved : goal.loop-named-preserved
loop-named-preserved c =
    let names = c.args.names.now in
    let i = c.loop-named.named-index in
    let x = get_or names i (record {
      place = record { line = 0; col = 0 };
      name = record { ref_ptr = (0, 0); now = [] };
    }) in
    let before = names_at (take i names) in
    let more : names_at (take (i + 1) names) ≡ before ++ name_at x ∷ [] =
    map_more name_at names i _ c.loop-named-test.true in
    record {
      told = told_more (found c.args.faults.now) (found c.loop-named.faults)
          (found c.tell_unless_new.new.faults) before (names_at (take (i + 1) names))
          (name_at x) _ c.loop-named.invariant.told c.in_ok-tell_unless_new.ensures
          (not_not _ _ c.in_ok-is_new.ensures.added ∙ c.loop-named.invariant.seen x.name) more;
      seen = λ q. seen_more _ _ _ _ _ (c.in_ok-is_new.ensures.updates.0 q)
          (is_eq-slice_cmp x.name.now q.now) (c.loop-named.invariant.seen q)
          ∙ sym (ap (λ ns. stands_in q.now (names_of ns)) more
          ∙ ap (stands_in q.now)
          (map-append (λ (n : NamedAt). n.name) before (name_at x ∷ []))
          ∙ stands_in-push q.now x.name.now (names_of before));
    }
