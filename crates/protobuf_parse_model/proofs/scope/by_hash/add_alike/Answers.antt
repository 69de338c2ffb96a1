use Rattle.std.proofs.Common.{◌∙◌, ap, length, refl, string_bytes}
use Rattle.std.proofs.lemmas.Option.{slice_get_read}
use Rattle.std.proofs.lemmas.Result.{on_err_weaker, on_ok_weaker}
use Rattle.protobuf_parse_model.specs.ByHash.{map_of}
use Rattle.protobuf_parse_model.proofs.ByHash.{adds_in_all, may_forget_in_all}
use Rattle.protobuf_parse_model.proofs.scope.by_hash.add_alike.Goals as goal

pub returns-clause-ok : goal.returns-clause-ok
returns-clause-ok c =
    let maps = c.make_room.new.maps.items in
    let map = c.map_of-map.result in
    let before = c.index_mut.result.now in
    let there = slice_get_read maps (length maps) map before refl c.in_ok-make_room.ensures.within
    c.index_mut.ensures.value in
    on_ok_weaker c.add_alike_in.result
    (adds_in_all c.args.maps.now.items maps before c.add_alike_in.new.by_hash
    (string_bytes c.args.name) map c.in_ok-make_room.ensures.same
    (c.map_of-map.ensures
    ∙ ap map_of c.requires) there c.args.declaration) c.add_alike_in.ensures.ok

pub returns-clause-err : goal.returns-clause-err
returns-clause-err c =
    let maps = c.make_room.new.maps.items in
    let map = c.map_of-map.result in
    let before = c.index_mut.result.now in
    let there = slice_get_read maps (length maps) map before refl c.in_ok-make_room.ensures.within
    c.index_mut.ensures.value in
    on_err_weaker c.add_alike_in.result
    (may_forget_in_all c.args.maps.now.items maps before c.add_alike_in.new.by_hash
    (string_bytes c.args.name) map c.in_ok-make_room.ensures.same
    (c.map_of-map.ensures ∙ ap map_of c.requires) there) c.add_alike_in.ensures.err
