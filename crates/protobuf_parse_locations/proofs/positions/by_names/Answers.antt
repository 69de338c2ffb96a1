use Rattle.std.proofs.Common.{◌∙◌, Some, None, cond, ap, sym, string_bytes}
use Rattle.std.specs.Prelude.{bytes_eq}
use Rattle.std.specs.BTreeMap.{get_by_text}
use Rattle.std.specs.Option.{option_or}
use Rattle.protobuf_parse_model.specs.Descriptors.{Text}
use Rattle.protobuf_parse_locations.specs.declared.declaration.Declaration.{Declaration}
use Rattle.protobuf_parse_locations.proofs.FirstFound.{first_at-more}
use Rattle.protobuf_parse_locations.proofs.positions.by_names.Goals as goal

pub declared-preserved : goal.declared-preserved
declared-preserved c = λ q.
    let item = c.index-declarations-at.result in
    c.in_ok-put_name.ensures q
    ∙ ap (λ (t : Text). option_or (get_by_text c.declared.positions q)
    (cond (bytes_eq q t) (Some c.declared.at) None)) c.deref.ensures
    ∙ ap (λ o. option_or o (cond (bytes_eq q (string_bytes item.full_name))
    (Some c.declared.at) None)) (c.declared.invariant q)
    ∙ sym (first_at-more (λ (d : Declaration). bytes_eq q (string_bytes d.full_name))
    c.args.declarations.now c.declared.at item c.declared-test.true c.index-declarations-at.is)
