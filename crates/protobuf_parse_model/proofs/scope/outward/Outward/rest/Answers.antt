use Rattle.std.proofs.Common.{◌∙◌, ◌∷◌, ap, drop, sym}
use Rattle.protobuf_parse_model.specs.Outward.{names_outward}
use Rattle.protobuf_parse_model.specs.SeenFiles.{name_texts}
use Rattle.protobuf_parse_model.proofs.Scopes.{first_name-apart, later_names-apart}
use Rattle.protobuf_parse_model.proofs.scope.outward.Outward.rest.Goals as goal

pub cut_last-requires : goal.cut_last-requires
cut_last-requires c =
    (_, first_name-apart c.args.self c.in-Some.outer.now _ c.in-Some.ensures.cases)

pub invariant_of-result : goal.invariant_of-result
invariant_of-result c =
    let first = first_name-apart c.args.self c.in-Some.outer.now _ c.in-Some.ensures.cases in
    record { in_scope = λ _. c.in_ok-cut_last.ensures _ first }

pub returns : goal.returns
returns c =
    let outer = c.in-Some.outer.now in
    let first = first_name-apart c.args.self outer _ c.in-Some.ensures.cases in
    ap (λ text. text ∷ drop 1 (names_outward (name_texts outer) c.args.self.name.now))
    (c.in_ok-cut_last.ensures _ first)
    ∙ sym (later_names-apart c.args.self outer _ c.in-Some.ensures.cases)
