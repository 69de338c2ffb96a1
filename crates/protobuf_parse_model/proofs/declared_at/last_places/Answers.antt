use Rattle.std.proofs.Common.{◌≡◌, ◌∙◌, ◌&&◌, ◌∷◌, [], Bool, ap, bytes_eq, if◌then◌else◌, map, sym}
use Rattle.std.proofs.Common.{true, false}
use Rattle.std.specs.BTreeMap.{get_by_text}
use Rattle.std.specs.Prelude.{None, Option, Some, string_bytes}
use Rattle.std.proofs.lemmas.List.{map-append}
use Rattle.std.proofs.lemmas.Map.Text.{btree_map_updates_text}
use Rattle.protobuf_parse_lexer.specs.declared.lexer.token.Place.{Place}
use Rattle.protobuf_parse_model.specs.DeclaredAtViews.{declared_at_view}
use Rattle.protobuf_parse_model.specs.LastDeclared.{last_place}
use Rattle.protobuf_parse_model.specs.Tables.{is_of}
use Rattle.protobuf_parse_model.proofs.LastDeclared.{last_append}
use Rattle.protobuf_parse_model.proofs.declared_at.last_places.Goals as goal

pub loop-declared-preserved-in_ok-insert : goal.loop-declared-preserved-in_ok-insert
loop-declared-preserved-in_ok-insert c name =
    let extension = c.args.extension in
    let so_far = map declared_at_view c.loop-declared.yielded in
    let d = declared_at_view c.in-Some.declared in
    let before = last_place extension name None so_far in
    let pick = λ (b : Bool). λ (o : Option Place). if b then Some d.what.place else o in
    let is : is_of extension d.what.kind ≡ true = sym c.is_of.ensures ∙ c.if-is_of.true in
    btree_map_updates_text d.name c.loop-declared.places c.insert.new.self
    (Some d.what.place) c.in_ok-insert.ensures.updates name
    ∙ ap (pick (bytes_eq d.name name)) (c.loop-declared.invariant name)
    ∙ ap (λ (b : Bool). pick (b && bytes_eq d.name name) before) (sym is)
    ∙ sym (ap (last_place extension name None)
    (map-append declared_at_view c.loop-declared.yielded (c.in-Some.declared ∷ []))
    ∙ last_append extension name None so_far (d ∷ []))

pub loop-declared-preserved : goal.loop-declared-preserved
loop-declared-preserved c name =
    let extension = c.args.extension in
    let so_far = map declared_at_view c.loop-declared.yielded in
    let d = declared_at_view c.in-Some.declared in
    let before = last_place extension name None so_far in
    let is : is_of extension d.what.kind ≡ false = sym c.is_of.ensures ∙ c.if-is_of.false in
    c.loop-declared.invariant name
    ∙ ap (λ (b : Bool). if b && bytes_eq d.name name then Some d.what.place else before) (sym is)
    ∙ sym (ap (last_place extension name None)
    (map-append declared_at_view c.loop-declared.yielded (c.in-Some.declared ∷ []))
    ∙ last_append extension name None so_far (d ∷ []))
