use Rattle.std.proofs.Common.{◌∙◌, ℕ, List, [], ap, cond, get_or, sym, take, true}
use Rattle.std.specs.Borrow.{Bor}
use Rattle.std.specs.Prelude.{bytes_eq}
use Rattle.std.proofs.lemmas.List.{map_more}
use Rattle.std.proofs.lemmas.Map.Text.{is_eq-slice_cmp}
use Rattle.protobuf_parse_model.specs.Descriptors.{Text}
use Rattle.protobuf_parse_model.specs.SeenFiles.{name_texts}
use Rattle.protobuf_parse_text_rules.specs.Options.{stands_in}
use Rattle.protobuf_parse_name_rules.specs.InnerViews.{has_text}
use Rattle.protobuf_parse_name_rules.proofs.Sets.{any_more}
use Rattle.protobuf_parse_name_rules.proofs.files.paths_of.Goals as goal

pub seen-preserved : goal.seen-preserved
seen-preserved c = λ path.
    let seen = c.args.seen.now in
    let i = c.seen.path-index in
    let x = get_or seen i (record { ref_ptr = (0, 0); now = [] }) in
    any_more (λ (y : Text). bytes_eq y path) (name_texts (take i seen)) x.now _ _
    (c.in_ok-insert.ensures.updates.0 (record { ref_ptr = (0, 0); now = path })
    ∙ ap (λ b. cond b true (has_text c.seen.paths path)) (is_eq-slice_cmp x.now path))
    (c.seen.invariant path)
    ∙ ap (stands_in path)
    (sym (map_more (λ (s : Bor (List ℕ)). s.now) seen i _ c.seen-test.true))
