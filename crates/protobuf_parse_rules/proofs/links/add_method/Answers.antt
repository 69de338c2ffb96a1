use Rattle.std.proofs.Common.{◌∙◌, [], ◌∷◌, List, ap, subst, string_bytes}
use Rattle.std.proofs.lemmas.Result.{on_ok_weaker}
use Rattle.protobuf_parse_model.specs.Descriptors.{Text}
use Rattle.protobuf_parse_rules.specs.KnownUses.{AddsNames}
use Rattle.protobuf_parse_rules.proofs.Linking.{names_more}
use Rattle.protobuf_parse_rules.proofs.links.add_method.Goals as goal

pub returns : goal.returns
returns c =
    let first : Text = c.deref.result.now in
    let second : Text = c.deref-2.result.now in
    let input : Text = string_bytes c.args.method.now.input_type in
    on_ok_weaker c.add_type-2.result
    (λ output all knows. subst (λ (ns : List Text). AddsNames all c.args.links.now
    c.add_type-2.new.links c.args.from.now ns)
    (ap (λ (t : Text). t ∷ second ∷ []) c.deref.ensures
    ∙ ap (λ (t : Text). input ∷ t ∷ []) c.deref-2.ensures)
    (names_more all _ _ _ _ (first ∷ []) (second ∷ [])
    (c.in_ok-add_type.ensures all knows) (output all knows)))
    c.add_type-2.ensures
