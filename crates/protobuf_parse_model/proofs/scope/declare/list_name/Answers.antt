use Rattle.std.proofs.Common.{◌≡◌, ◌∙◌, ◌++◌, ◌∷◌, [], ap, arith, if◌then◌else◌, nat_eq, unwrap_or}
use Rattle.std.specs.Prelude.{String}
use Rattle.std.specs.Global.{Global, Vec}
use Rattle.std.specs.BTreeMap.Entry.{map_with_value}
use Rattle.protobuf_parse_model.specs.Tables.{names_listed}
use Rattle.protobuf_parse_model.proofs.Tables.{names_more}
use Rattle.protobuf_parse_model.proofs.scope.declare.list_name.Goals as goal

pub returns : goal.returns
returns c =
    let had = c.or_insert-names.ensures.value
    ∙ ap (λ o. unwrap_or o c.new.result) c.in_ok-repeated.ensures.value in
    let items = c.in_ok-push.ensures.items
    ∙ ap (λ (v : Vec (String Global)). v.items ++ c.in_ok-name.name ∷ []) had in
    let old = c.args.repeated.now in
    let new = map_with_value c.in_ok-repeated.field-0 c.push.new.self in
    let text = c.args.name.now in
    λ n. let e : names_listed new n ≡ names_listed old n
    ++ (if nat_eq c.args.file n then text ∷ [] else []) =
    names_more old new c.args.file c.new.result c.push.new.self c.in_ok-name.name text
    (c.in_ok-repeated.ensures.update.0 c.push.new.self) c.new.ensures.items items
    c.in_ok-name.ensures.ok n in
    grind (arith, e)
