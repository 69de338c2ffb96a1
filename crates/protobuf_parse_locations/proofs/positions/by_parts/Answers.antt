use Rattle.std.proofs.Common.{◌∙◌, Some, None, cond, ap, sym}
use Rattle.std.specs.Prelude.{bytes_eq}
use Rattle.std.specs.Option.{option_or}
use Rattle.protobuf_parse_source_info.specs.Parts.{at}
use Rattle.protobuf_parse_source_info.specs.Walks.{Path}
use Rattle.protobuf_parse_source_info.specs.declared.info.Location.{Location}
use Rattle.protobuf_parse_locations.specs.Kept.{part_kept}
use Rattle.protobuf_parse_locations.proofs.FirstFound.{first_at-more}
use Rattle.protobuf_parse_locations.proofs.positions.by_parts.Goals as goal

pub locations-preserved : goal.locations-preserved
locations-preserved c = λ q n.
    let item = c.index-locations-at.result in
    c.in_ok-put_location.ensures q n
    ∙ ap (λ (t : Path). option_or (part_kept c.locations.positions q n)
    (cond (bytes_eq (at q n) t) (Some c.locations.at) None)) c.deref.ensures.value
    ∙ ap (λ o. option_or o (cond (bytes_eq (at q n) item.path.items)
    (Some c.locations.at) None)) (c.locations.invariant q n)
    ∙ sym (first_at-more (λ (l : Location). bytes_eq (at q n) l.path.items)
    c.args.locations.now c.locations.at item c.locations-test.true c.index-locations-at.is)
