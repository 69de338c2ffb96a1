use Rattle.std.proofs.Common.{List, [], ◌∷◌, ◌++◌, ℕ, map, ap, ◌∙◌, option_map}
use Rattle.std.proofs.lemmas.List.{map-append}
use Rattle.protobuf_parse_source_info.specs.Walks.{Located}
use Rattle.protobuf_parse_source_info.specs.Views.{name_seen}
use Rattle.protobuf_parse_source_info.specs.InnerViews.{doing, found_view, opened, begun}
use Rattle.protobuf_parse_source_info.proofs.walker.Walker.open.Goals as goal

pub returns-clause-opened : goal.returns-clause-opened
unfolding opened
returns-clause-opened c =
    let d = doing c.args.self.now in
    ap (λ (f : List Located). record { found = f; ahead = d.ahead })
    (ap (map found_view) c.in_ok-push.ensures.items
    ∙ map-append found_view c.args.self.now.found.items _
    ∙ ap (λ (q : List ℕ).
    d.found ++ begun c.args.from (option_map name_seen c.args.option) q ∷ [])
    (c.in_ok-extend_from_slice.ensures.items
    ∙ ap (λ (q : List ℕ). q ++ c.args.more.now) c.in_ok-path.ensures.items))
