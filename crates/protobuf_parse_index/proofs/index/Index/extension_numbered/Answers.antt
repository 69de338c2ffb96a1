use mir.Syntax.{w128}
use Rattle.std.proofs.Common.{◌≡◌, ◌∙◌, List, map, ap, subst, rules}
use Rattle.std.specs.Int.RustNames.{FitsSigned}
use Rattle.protobuf_parse_model.specs.Descriptors.{FileDescriptor, file_view}
use Rattle.std.proofs.lemmas.Int.{to_z-of_z}
use Rattle.protobuf_parse_index.specs.Kept.{extended_at, is_extension}
use Rattle.protobuf_parse_index.specs.Lookups.{extension_numbered}
use Rattle.protobuf_parse_index.specs.Views.{extension_found, standing_extension}
use Rattle.protobuf_parse_index.proofs.Positions.{found_there}
use Rattle.protobuf_parse_index.proofs.index.Index.extension_numbered.Goals as goal

pub returns : goal.returns
returns c =
    let of = c.args.extendee.now in
    let n = c.args.number in
    let fits : FitsSigned w128 n = search rules in
    subst (λ (fs : List FileDescriptor). extension_found c.at_position.result
    ≡ extension_numbered fs of n)
    (ap (map file_view) c.self.view_is)
    (found_there standing_extension (is_extension of n) c.deref.result.now _ c.at_position.result
    c.extension_at-at.result c.at_position.ensures
    (ap (map standing_extension) c.deref.ensures.value ∙ c.self.invariant.walk.extensions)
    (c.extension_at-at.ensures
    ∙ ap (extended_at c.self.inside.extensions_by_number of) (to_z-of_z w128 n fits)
    ∙ c.self.invariant.extended.at of n))
