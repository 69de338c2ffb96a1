use Rattle.std.proofs.Common.{◌≡◌, ◌∙◌, ap, arith, unwrap_or}
use Rattle.std.specs.Prelude.{string_bytes, if◌then◌else◌, bytes_eq, Some, None}
use Rattle.std.specs.BTreeMap.{get_by_text}
use Rattle.std.specs.BTreeMap.Entry.{map_with_value}
use Rattle.protobuf_parse_load.specs.StepLists.{or_else}
use Rattle.protobuf_parse_load.proofs.Learning.{learns_of}
use Rattle.protobuf_parse_load.proofs.known.learn_of.Goals as goal

pub returns-clause-ok : goal.returns-clause-ok
returns-clause-ok c p =
    let n = c.or_insert.result.now in
    let new = map_with_value c.in_ok-paths.field-0 n in
    let is = c.or_insert.ensures.value
    ∙ ap (λ o. unwrap_or o c.args.known) c.in_ok-paths.ensures.value in
    let fact : get_by_text new p ≡ or_else (get_by_text c.args.paths.now p)
    (if bytes_eq p (string_bytes c.args.path.now) then Some c.args.known else None) =
    learns_of c.args.paths.now new c.in_ok-key.key (string_bytes c.args.path.now) c.args.known n
    c.in_ok-key.ensures.cases is (c.in_ok-paths.ensures.update.0 n) p in
    grind (arith, fact)
