-- One identifier more, after a dot unless it is the first.
use Rattle.std.proofs.Common.{◌≡◌, map, ap, ◌∙◌, arith}
use Rattle.std.proofs.lemmas.List.{take_all}
use Rattle.std.specs.String.{string_bytes}
use Rattle.protobuf_parse_base.specs.Names.{is_relative, relative_idents, relative_text}
use Rattle.protobuf_parse_base.specs.NameViews.{ident_ref_text}
use Rattle.protobuf_parse_base.proofs.NameTexts.{is_relative-text, relative_idents-text}
use Rattle.protobuf_parse_base.proofs.IdentLists.{are_idents-map, relative_text-more}
use Rattle.protobuf_parse_base.proofs.names.relative.ProtobufRelPath.from_components.Goals as goal

pub loop-component-preserved : goal.loop-component-preserved
loop-component-preserved c =
    relative_text-more c.args.components.now c.loop-component.component-index
    c.component-item.result (string_bytes c.loop-component.text)
    (string_bytes c.push_part.new.text) c.as_str.result.now
    (omega arith) c.component-item.is c.as_str.ensures.text c.loop-component.invariant
    c.in_ok-push_part.ensures

pub invariant_of-result : goal.invariant_of-result
invariant_of-result c =
    let whole : string_bytes c.loop-component.text
    ≡ relative_text (map ident_ref_text c.args.components.now) =
    c.loop-component.invariant
    ∙ ap (λ xs. relative_text (map ident_ref_text xs))
    (take_all c.loop-component.component-index c.args.components.now (omega arith)) in
    record {
      well_formed = ap is_relative whole
          ∙ is_relative-text (map ident_ref_text c.args.components.now)
          (are_idents-map c.args.components.now);
    }

pub returns : goal.returns
returns c =
    let whole : string_bytes c.loop-component.text
    ≡ relative_text (map ident_ref_text c.args.components.now) =
    c.loop-component.invariant
    ∙ ap (λ xs. relative_text (map ident_ref_text xs))
    (take_all c.loop-component.component-index c.args.components.now (omega arith)) in
    ap relative_idents whole
    ∙ relative_idents-text (map ident_ref_text c.args.components.now)
    (are_idents-map c.args.components.now)
