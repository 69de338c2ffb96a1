use Rattle.std.specs.Borrow.{Bor}
use Rattle.std.proofs.Common.{◌≡◌, ℕ, ◌+◌, List, ◌∙◌, ◌++◌, [], ◌∷◌, sym, ap, append_assoc}
use Rattle.std.proofs.Common.{append-nil, take, get_or}
use Rattle.std.proofs.lemmas.List.{map_more}
use Rattle.protobuf_parse_base.specs.Names.{absolute_text}
use Rattle.protobuf_parse_base.proofs.NameTexts.{absolute_text-append}
use Rattle.protobuf_parse_model.specs.SeenFiles.{name_texts}
use Rattle.protobuf_parse_model.proofs.scope.full_name.Goals as goal

pub loop-outer-preserved : goal.loop-outer-preserved
unfolding lib.Utf8.encode
loop-outer-preserved c =
    let d = get_or c.args.scope.now c.loop-outer.outer-index
    (record { ref_ptr = (0, 0); now = [] }) in
    let before = name_texts (take c.loop-outer.outer-index c.args.scope.now) in
    let more : name_texts (take (c.loop-outer.outer-index + 1) c.args.scope.now) ≡ before ++ d.now
    ∷ [] = map_more (λ (s : Bor (List ℕ)). s.now) c.args.scope.now c.loop-outer.outer-index _
    c.loop-outer-test.true in
    let old = c.in_ok-push.ensures.bytes ∙ ap (λ z. z ++ 46 ∷ []) c.loop-outer.invariant in
    let new = c.in_ok-push_str.ensures.bytes ∙ ap (λ z. z ++ d.now) old in
    new ∙ append_assoc (absolute_text before) (46 ∷ []) d.now
    ∙ sym (ap absolute_text more ∙ absolute_text-append before (d.now ∷ [])
    ∙ ap (λ z. absolute_text before ++ 46 ∷ z) (append-nil d.now))
