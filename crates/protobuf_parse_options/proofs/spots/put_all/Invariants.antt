use Rattle.std.proofs.Common.{◌≡◌, ◌++◌, drop}
use Rattle.protobuf_parse_model.specs.Descriptors.{Text}
use Rattle.protobuf_parse_options.specs.Holding.{spots_under}
use Rattle.protobuf_parse_options.specs.HoldingParts.{spots_of_list}
use Rattle.protobuf_parse_options.proofs.spots.put_all.Given as goal

abbrev pub invariant-items : goal.invariant-items
invariant-items g l =
    let parts = g.T.HasParts.part_names in
    (name : Text) → spots_under l.fn.spots name ++ spots_of_list parts l.file name l.list
    ≡ spots_under l.spots name ++ spots_of_list parts l.file name (drop l.spotted-index l.list)
