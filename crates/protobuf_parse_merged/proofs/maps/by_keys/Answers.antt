use Rattle.std.proofs.Common.{◌≡◌, ◌∙◌, List, [], ◌∷◌, ap, map, sym}
use Rattle.std.specs.BTreeMap.{insert_entry}
use Rattle.std.proofs.lemmas.Iterator.Adapters.{YieldsList-from_vec}
use Rattle.std.proofs.lemmas.Iterator.Consumers.{YieldsList-end, YieldsList-from_rest}
use Rattle.std.proofs.lemmas.List.{map-append, map-id}
use Rattle.protobuf_parse_merged.specs.declared.message.FieldValue as code
use Rattle.protobuf_parse_merged.specs.Maps as spec
use Rattle.protobuf_parse_merged.specs.Merged.{Value}
use Rattle.protobuf_parse_merged.specs.Inside.{value_view}
use Rattle.protobuf_parse_merged.proofs.Keys.{put_last, values_seen}
use Rattle.protobuf_parse_merged.proofs.maps.by_keys.Goals as goal

pub values-preserved : goal.values-preserved
values-preserved c =
    let v = value_view c.in-Some.value in
    c.in_ok-put.ensures
    ∙ ap (λ (es : List (spec.Key × Value)). insert_entry spec.key_cmp es (spec.key_of v) v)
    c.values.invariant
    ∙ sym (put_last [] (map value_view c.values.yielded) v)
    ∙ ap (spec.put_all [])
    (sym (map-append value_view c.values.yielded (c.in-Some.value ∷ [])))

pub returns : goal.returns
returns c =
    let end = YieldsList-end
    (YieldsList-from_vec {s = c.into_iter-value-iterator.result} c.args.values.items (cc) (cc))
    c.values.yielded c.values.value-iterator c.values.yielded_by _ c.next.new.self c.in-None.is
    c.next.ensures.steps in
    let all : c.values.yielded ≡ c.args.values.items = sym (map-id c.values.yielded) ∙ end.0 in
    let es = c.values.entries.entries in
    let end2 = YieldsList-end
    (YieldsList-from_rest {s = c.into_iter-value-iterator-2.result}
    (map (λ (e : _ × code.FieldValue). e.1) es)
    (c.into_iter-value-iterator-2.ensures.into_iter_gives ∙ c.into_values-value-items.ensures.rest))
    c.entries.yielded c.entries.value-iterator c.entries.yielded_by _ c.next-in-entries.new.self
    c.in-None-value.is c.next-in-entries.ensures.steps in
    let sorted : c.entries.yielded ≡ map (λ e. e.1) es = sym (map-id c.entries.yielded) ∙ end2.0 in
    c.entries.invariant
    ∙ ap (map value_view) sorted
    ∙ values_seen es
    ∙ ap (map (λ (e : spec.Key × Value). e.1)) c.values.invariant
    ∙ ap (λ (vs : List code.FieldValue). spec.by_keys (map value_view vs)) all
