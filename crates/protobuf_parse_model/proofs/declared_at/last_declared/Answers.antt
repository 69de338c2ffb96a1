use Rattle.std.proofs.Common.{◌≡◌, ◌∙◌, ◌&&◌, ◌∷◌, [], Bool, ap, bytes_eq, if◌then◌else◌, map, sym}
use Rattle.std.specs.Prelude.{None, Some}
use Rattle.std.proofs.lemmas.List.{map-append}
use Rattle.protobuf_parse_model.specs.DeclaredAtViews.{declared_at_view}
use Rattle.protobuf_parse_model.specs.LastDeclared.{last_place}
use Rattle.protobuf_parse_model.specs.Tables.{is_of}
use Rattle.protobuf_parse_model.proofs.LastDeclared.{last_append}
use Rattle.protobuf_parse_model.proofs.declared_at.last_declared.Goals as goal
use Rattle.protobuf_parse_model.proofs.declared_at.last_declared.Goals.{then-is_meant}
use Rattle.protobuf_parse_model.proofs.declared_at.last_declared.Goals.{else-is_meant}

pub loop-declared-preserved : goal.loop-declared-preserved
loop-declared-preserved c =
    let extension = c.args.extension in
    let name = c.args.name.now in
    let so_far = map declared_at_view c.loop-declared.yielded in
    let d = declared_at_view c.in-Some.declared in
    let before = last_place extension name None so_far in
    let pick = λ (b : Bool). if b then Some d.what.place else before in
    let next : c.if-is_meant.found ≡ pick (is_of extension d.what.kind && bytes_eq d.name name) =
    elim c.if-is_meant.branch [
      | then-is_meant w ↦ w.found-is ∙ ap pick w.if-is_meant.ensures
      | else-is_meant w ↦ w.found-is ∙ c.loop-declared.invariant
          ∙ ap pick w.if-is_meant.ensures
    ] in
    next ∙ sym (ap (last_place extension name None)
    (map-append declared_at_view c.loop-declared.yielded (c.in-Some.declared ∷ []))
    ∙ last_append extension name None so_far (d ∷ []))
