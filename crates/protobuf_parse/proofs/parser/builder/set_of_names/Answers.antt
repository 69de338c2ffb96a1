use Rattle.std.proofs.Common.{◌≡◌, ◌∙◌, ap, sym, map, take, cond, true}
use Rattle.std.specs.Prelude.{bytes_eq, string_bytes}
use Rattle.std.specs.BTreeSet.{contains_text}
use Rattle.std.specs.List.{list_any}
use Rattle.std.proofs.lemmas.Map.Text.{btree_set_updates_text}
use Rattle.protobuf_parse_base.specs.PathViews.{path_buf_text}
use Rattle.protobuf_parse_model.specs.Descriptors.{Text}
use Rattle.protobuf_parse.proofs.Building.{any-push, views-next}
use Rattle.protobuf_parse.proofs.parser.builder.set_of_names.Goals as goal

pub loop-name-preserved : goal.loop-name-preserved
loop-name-preserved c = λ q.
    let key = c.in_ok-from_str.field-0 in
    let item = c.name-item.result in
    let is_q = λ (n : Text). bytes_eq n q in
    let text : string_bytes key ≡ path_buf_text item =
    c.in_ok-from_str.ensures.ok ∙ c.to_str.ensures.text ∙ c.as_path.ensures in
    btree_set_updates_text (string_bytes key) c.loop-name.set c.insert.new.self true
    c.in_ok-insert.ensures.updates q
    ∙ ap (λ t. cond (bytes_eq t q) true (contains_text c.loop-name.set q)) text
    ∙ ap (λ r. cond (is_q (path_buf_text item)) true r) (c.loop-name.invariant q)
    ∙ sym (any-push is_q (map path_buf_text (take c.loop-name.name-index c.args.names.now))
    (path_buf_text item))
    ∙ sym (ap (list_any is_q)
    (views-next path_buf_text c.args.names.now c.loop-name.name-index item c.loop-name-test.true
    c.name-item.is))
