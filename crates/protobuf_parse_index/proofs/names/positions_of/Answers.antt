use Rattle.std.proofs.Common.{◌∙◌, Some, None, cond, ap, sym, string_bytes}
use Rattle.std.specs.Prelude.{bytes_eq}
use Rattle.std.specs.BTreeMap.{get_by_text}
use Rattle.std.specs.Option.{option_or}
use Rattle.protobuf_parse_model.specs.Descriptors.{Text}
use Rattle.protobuf_parse_index.specs.declared.declared.Declared.{Declared}
use Rattle.protobuf_parse_index.proofs.Positions.{first_at-more}
use Rattle.protobuf_parse_index.proofs.names.positions_of.Goals as goal

pub declared-preserved : goal.declared-preserved
declared-preserved g c = λ q.
    let item = c.index-declared-at.result in
    c.in_ok-put_position.ensures q
    ∙ ap (λ (t : Text). option_or (get_by_text c.declared.positions q)
    (cond (bytes_eq q t) (Some c.declared.at) None)) c.deref.ensures
    ∙ ap (λ o. option_or o (cond (bytes_eq q (string_bytes item.full_name))
    (Some c.declared.at) None)) (c.declared.invariant q)
    ∙ sym (first_at-more (λ (d : Declared g.row.T.Denot). bytes_eq q (string_bytes d.full_name))
    c.args.declared.now c.declared.at item c.declared-test.true c.index-declared-at.is)
