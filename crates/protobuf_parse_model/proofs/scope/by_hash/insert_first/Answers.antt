use Rattle.std.proofs.Common.{◌∙◌, ap, length, refl, string_bytes}
use Rattle.std.proofs.lemmas.Option.{slice_get_read}
use Rattle.std.proofs.lemmas.Result.{IfOk-weaker}
use Rattle.protobuf_parse_model.specs.ByHash.{map_of}
use Rattle.protobuf_parse_model.proofs.ByHash.{adds_in_all, keeps_all}
use Rattle.protobuf_parse_model.proofs.scope.by_hash.insert_first.Goals as goal

pub returns-clause-adds : goal.returns-clause-adds
returns-clause-adds c =
    let maps = c.make_room.new.maps.items in
    let map = c.map_of-map.result in
    let before = c.index_mut.result.now in
    let there = slice_get_read maps (length maps) map before refl c.in_ok-make_room.ensures.within
    c.index_mut.ensures.value in
    IfOk-weaker c.insert_in.result _ _ (λ taken adds none.
    adds_in_all c.args.maps.now.items maps before c.insert_in.new.by_hash
    (string_bytes c.args.name) map c.in_ok-make_room.ensures.same
    (c.map_of-map.ensures ∙ ap map_of c.requires) there c.args.declaration (adds none))
    c.insert_in.ensures.adds

pub returns-clause-same : goal.returns-clause-same
returns-clause-same c =
    let maps = c.make_room.new.maps.items in
    let map = c.map_of-map.result in
    let before = c.index_mut.result.now in
    let there = slice_get_read maps (length maps) map before refl c.in_ok-make_room.ensures.within
    c.index_mut.ensures.value in
    IfOk-weaker c.insert_in.result _ _ (λ taken same some.
    keeps_all c.args.maps.now.items maps before c.insert_in.new.by_hash
    (string_bytes c.args.name) map c.in_ok-make_room.ensures.same
    (c.map_of-map.ensures ∙ ap map_of c.requires) there (same some)) c.insert_in.ensures.same
