use Rattle.std.proofs.Common.{◌≡◌, map, ap, ◌∙◌}
use Rattle.std.proofs.lemmas.List.{drop_all}
use Rattle.std.proofs.Math.Path.{fun_ext}
use Rattle.protobuf_parse_model.specs.Descriptors.{file_view}
use Rattle.protobuf_parse_index.specs.Views.{standing_extension}
use Rattle.protobuf_parse_wire_changes.specs.Changes.{Comparison, all_changes}
use Rattle.protobuf_parse_wire_changes.specs.Changes.{extension_changes}
use Rattle.protobuf_parse_wire_changes.specs.Kept.{partner_seen}
use Rattle.protobuf_parse_wire_changes.specs.Partners.{Partners, partner}
use Rattle.protobuf_parse_wire_changes.specs.Views.{changes_view}
use Rattle.protobuf_parse_wire_changes.proofs.Listing.{is_done}
use Rattle.protobuf_parse_wire_changes.proofs.compare.wire_changes.Goals as goal

pub returns : goal.returns
returns c =
    let old = map file_view c.args.old.now in
    let new = map file_view c.args.new.now in
    let by : Partners → Comparison =
    λ partners. record { strength = c.args.strength; old = old; new = new; partners = partners } in
    let same : partner_seen c.in_ok-partners.partners ≡ partner old new =
    fun_ext c.in_ok-partners.ensures in
    let list = c.extensions-extension-items.result.now in
    is_done standing_extension
    (extension_changes (by (partner_seen c.in_ok-partners.partners)))
    (changes_view c.extensions.changes.items) c.extensions.extension-index list
    (all_changes (by (partner_seen c.in_ok-partners.partners)))
    (drop_all c.extensions.extension-index list c.extensions-test.false) c.extensions.invariant
    ∙ ap (λ (partners : Partners). all_changes (by partners)) same
