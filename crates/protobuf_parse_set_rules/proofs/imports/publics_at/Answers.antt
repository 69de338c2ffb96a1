use Rattle.std.proofs.Common.{◌∙◌, ◌++◌, ℕ, ◌<◌, ℤ, pos, List, ap, get_or, length, map, subst, sym}
use Rattle.std.proofs.Common.{string_bytes}
use Rattle.std.specs.Prelude.{String}
use Rattle.std.specs.Global.{Global}
use Rattle.protobuf_parse_model.specs.Descriptors.{Text}
use Rattle.protobuf_parse_set_rules.specs.Sights.{Paths, files_before}
use Rattle.protobuf_parse_set_rules.specs.Held.{positions_view}
use Rattle.protobuf_parse_set_rules.proofs.Ways.{path_at, publics_more}
use Rattle.protobuf_parse_set_rules.proofs.imports.publics_at.Goals as goal

pub publics-preserved : goal.publics-preserved
publics-preserved c =
    let paths : Paths = positions_view c.args.paths.now in
    let n = c.args.position in
    let i = c.publics.index-index in
    let imports : List Text = map string_bytes c.args.file.now.dependency.items in
    let publics : List ℤ = c.args.file.now.public_dependency.items in
    let seen : List ℤ = c.deref-index-items.result.now in
    let found : List ℕ = c.publics.found.items in
    c.in_ok-add_at.ensures
    ∙ ap (λ (ss : List (String Global)). found
    ++ files_before paths n (path_at (map string_bytes ss) (get_or seen i (pos 0))))
    c.deref.ensures.value
    ∙ ap (λ (is : List ℤ). found ++ files_before paths n (path_at imports (get_or is i (pos 0))))
    c.deref-index-items.ensures.value
    ∙ ap (λ (z : List ℕ). z ++ files_before paths n (path_at imports (get_or publics i (pos 0))))
    c.publics.invariant
    ∙ sym (publics_more paths n imports publics i (pos 0)
    (subst (λ (is : List ℤ). i < length is) c.deref-index-items.ensures.value
    c.publics-test.true))
