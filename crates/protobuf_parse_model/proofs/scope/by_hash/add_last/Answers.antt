use Rattle.std.proofs.Common.{◌≡◌, ◌∙◌, ap, ◌++◌, ◌∷◌, [], unwrap_or, string_bytes, arith, bytes_eq}
use Rattle.std.proofs.Common.{if◌then◌else◌}
use Rattle.std.specs.Global.{Vec}
use Rattle.std.specs.BTreeMap.{get_by_text}
use Rattle.std.specs.BTreeMap.Entry.{map_with_value}
use Rattle.protobuf_parse_model.specs.declared.scope.seen.Declaration.{Declaration}
use Rattle.protobuf_parse_model.specs.ByHash.{listed}
use Rattle.protobuf_parse_model.proofs.Tables.{put_last}
use Rattle.protobuf_parse_model.proofs.scope.by_hash.add_last.Goals as goal

pub returns : goal.returns
returns c =
    let had = c.or_insert-declarations.ensures.value
    ∙ ap (λ o. unwrap_or o c.new.result) c.in_ok-by_name.ensures.value in
    let items = c.in_ok-push.ensures.items
    ∙ ap (λ (v : Vec Declaration). v.items ++ c.args.declaration ∷ []) had in
    let old = c.args.by_name.now in
    let new = map_with_value c.in_ok-by_name.field-0 c.push.new.self in
    λ q. let e : listed (get_by_text new q) ≡ listed (get_by_text old q)
    ++ (if bytes_eq (string_bytes c.args.name) q then c.args.declaration ∷ [] else []) =
    put_last old new c.args.name c.new.result c.push.new.self c.args.declaration
    (c.in_ok-by_name.ensures.update.0 c.push.new.self) c.new.ensures.items items q in
    grind (arith, e)
