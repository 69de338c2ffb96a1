use Rattle.std.proofs.Common.{◌≡◌, Ok, Some, ap, sym, ◌∙◌}
use Rattle.std.specs.Option.{option_copied}
use Rattle.std.specs.BTreeMap.{get_by_text}
use Rattle.std.proofs.lemmas.Map.Text.{btree_map_updates_text}
use Rattle.protobuf_parse_model.specs.Descriptors.{Text}
use Rattle.protobuf_parse_wire.specs.Indexed.{entered_by, numbered}
use Rattle.protobuf_parse_wire.proofs.Visiting.{of_found, one_more}
use Rattle.protobuf_parse_wire.proofs.reader.visited.enter.Goals as goal

pub returns-in-Some-get-clause-gives : goal.returns-in-Some-get-clause-gives
returns-in-Some-get-clause-gives c =
    let index = c.args.index.now in
    let name : Text = c.in-Some.name.now in
    let found : get_by_text c.args.visited.now.by_name name ≡ Some c.in-Some-get.numbers.now =
    sym c.get.ensures.value ∙ ap option_copied c.in-Some-get.is in
    let made : entered_by index (Some name) ≡ Ok (numbered c.in-Some-get.numbers.now.value) =
    of_found (λ n. entered_by index (Some name) ≡ Ok (numbered n.value)) _ _ found
    (c.requires name) in
    rw (c.in-Some.is, c.in_ok-clone.ensures.cases) made

pub returns-clause-kept : goal.returns-clause-kept
returns-clause-kept c =
    let index = c.args.index.now in
    let name : Text = c.in-Some.name.now in
    let old = c.args.visited.now.by_name in
    let new = c.insert.new.self in
    let kept = c.in_ok-clone-2.field-0 in
    let same : kept.value ≡ c.in_ok-numbers_of.field-0 = c.in_ok-clone-2.ensures.cases
    ∙ c.in_ok-numbers.ensures.ok in
    let made : entered_by index (Some name)
    ≡ Ok (numbered kept.value) = rw same c.in_ok-numbers_of.ensures in
    one_more (λ q n. entered_by index (Some q) ≡ Ok (numbered n.value)) (get_by_text old)
    (get_by_text new) name kept
    c.requires made
    (λ q. rw (← c.in_ok-key.ensures.ok)
    (btree_map_updates_text _ old new (Some kept) c.in_ok-insert.ensures.updates q))
