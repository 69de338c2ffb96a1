use Rattle.std.proofs.Common.{◌∙◌, Some, None, cond, ap, sym}
use Rattle.std.specs.Prelude.{bytes_eq}
use Rattle.std.specs.Option.{option_or}
use Rattle.protobuf_parse_source_info.specs.Walks.{Path}
use Rattle.protobuf_parse_locations.specs.Kept.{path_kept}
use Rattle.protobuf_parse_locations.specs.declared.declaration.Declaration.{Declaration}
use Rattle.protobuf_parse_locations.proofs.FirstFound.{first_at-more}
use Rattle.protobuf_parse_locations.proofs.positions.by_paths.Goals as goal

pub declared-preserved : goal.declared-preserved
declared-preserved c = λ q.
    let item = c.index-declarations-at.result in
    c.in_ok-put_path.ensures q
    ∙ ap (λ (t : Path). option_or (path_kept c.declared.positions q)
    (cond (bytes_eq q t) (Some c.declared.at) None)) c.deref.ensures.value
    ∙ ap (λ o. option_or o (cond (bytes_eq q item.path.items)
    (Some c.declared.at) None)) (c.declared.invariant q)
    ∙ sym (first_at-more (λ (d : Declaration). bytes_eq q d.path.items)
    c.args.declarations.now c.declared.at item c.declared-test.true c.index-declarations-at.is)
