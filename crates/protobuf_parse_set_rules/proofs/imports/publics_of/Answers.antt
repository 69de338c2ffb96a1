use Rattle.std.proofs.Common.{◌∙◌, ◌++◌, [], ◌∷◌, ℕ, List, ap, map, sym, take}
use Rattle.std.proofs.lemmas.List.{map-append}
use Rattle.std.specs.Global.{Vec}
use Rattle.protobuf_parse_model.specs.Descriptors.{FileDescriptor, file_view}
use Rattle.protobuf_parse_set_rules.specs.Sights.{Paths, files_before, public_paths, publics_of}
use Rattle.protobuf_parse_set_rules.specs.Held.{lists_view, positions_view}
use Rattle.protobuf_parse_set_rules.proofs.Lists.{positioned_more}
use Rattle.protobuf_parse_set_rules.proofs.imports.publics_of.Goals as goal

pub files-preserved : goal.files-preserved
files-preserved c =
    let this = c.index-files-position.result in
    let paths : Paths = positions_view c.args.paths.now in
    let found : List ℕ = c.in_ok-imports.imports.items in
    let so_far : List FileDescriptor = map file_view (take c.files.position c.args.files.now) in
    let of : ℕ → FileDescriptor → List (List ℕ) =
    λ n f. files_before paths n (public_paths f) ∷ [] in
    ap lists_view c.in_ok-push.ensures.items
    ∙ map-append (λ (l : Vec ℕ). l.items) c.files.publics.items (c.in_ok-imports.imports ∷ [])
    ∙ ap (λ z. z ++ found ∷ []) c.files.invariant
    ∙ ap (λ (z : List ℕ). publics_of paths so_far ++ z ∷ []) c.in_ok-imports.ensures
    ∙ sym (positioned_more of file_view c.args.files.now c.files.position this
    c.files-test.true c.index-files-position.is)
