use Rattle.std.proofs.Common.{◌≡◌, ◌∙◌, ◌||◌, ◌++◌, ◌∷◌, ℕ, ◌+◌, List, [], ap, cond, get_or}
use Rattle.std.proofs.Common.{sym, take, true}
use Rattle.std.specs.Borrow.{Bor}
use Rattle.std.specs.BTreeSet.{contains_text}
use Rattle.std.specs.Prelude.{bytes_eq, string_bytes}
use Rattle.std.proofs.lemmas.List.{map_more}
use Rattle.std.proofs.lemmas.Map.Text.{btree_set_updates_text}
use Rattle.protobuf_parse_base.specs.Names.{absolute_text}
use Rattle.protobuf_parse_model.specs.Descriptors.{Text}
use Rattle.protobuf_parse_model.specs.SeenFiles.{name_texts}
use Rattle.protobuf_parse_name_rules.proofs.Packages.{front_more, fronts_more}
use Rattle.protobuf_parse_name_rules.proofs.Sets.{cond_or, or_none, or_turn}
use Rattle.protobuf_parse_name_rules.proofs.files.add_fronts.Goals as goal

pub parts-init : goal.parts-init
parts-init c =
    let key = c.in_ok-clone.field-0 in
    let old = contains_text c.args.packages.now in
    record {
      front = c.new-front.ensures.bytes;
      packages = λ name.
          btree_set_updates_text (string_bytes key) c.args.packages.now c.insert.new.self true
          c.in_ok-insert.ensures.updates name
          ∙ ap (λ (t : Text). cond (bytes_eq t name) true (old name))
          (c.in_ok-clone.ensures.cases ∙ c.new-front.ensures.bytes)
          ∙ cond_or (bytes_eq [] name) (old name)
          ∙ or_turn (bytes_eq [] name) (old name)
          ∙ ap (λ b. old name || b) (sym (or_none (bytes_eq [] name)));
    }

pub parts-preserved : goal.parts-preserved
unfolding lib.Utf8.encode
parts-preserved c =
    let parts = c.args.parts.now in
    let i = c.parts.part-index in
    let x = get_or parts i (record { ref_ptr = (0, 0); now = [] }) in
    let ts = name_texts (take i parts) in
    let more : name_texts (take (i + 1) parts) ≡ ts ++ x.now ∷ [] =
    map_more (λ (s : Bor (List ℕ)). s.now) parts i _ c.parts-test.true in
    let front : string_bytes c.push_str.new.self ≡ absolute_text (name_texts (take (i + 1) parts)) =
    c.in_ok-push_str.ensures.bytes
    ∙ ap (λ z. z ++ x.now)
    (c.in_ok-push.ensures.bytes ∙ ap (λ z. z ++ 46 ∷ []) c.parts.invariant.front)
    ∙ front_more ts x.now ∙ ap absolute_text (sym more) in
    let key = c.in_ok-clone-2.field-0 in
    record {
      front = front;
      packages = λ name.
          fronts_more name ts x.now (name_texts (take (i + 1) parts)) (string_bytes key) _ _ _
          (btree_set_updates_text (string_bytes key) c.parts.packages c.insert-in-parts.new.self
          true c.in_ok-insert-2.ensures.updates name)
          (c.in_ok-clone-2.ensures.cases ∙ front) more (c.parts.invariant.packages name);
    }
