use Rattle.std.proofs.Common.{◌≡◌, ◌∙◌, ◌+◌, ◌||◌, ◌++◌, ◌∷◌, [], ap, sym, take}
use Rattle.std.specs.Prelude.{bytes_eq, nat_abs}
use Rattle.protobuf_parse_model.specs.Descriptors.{field_view}
use Rattle.protobuf_parse_name_rules.specs.InnerViews.{fields_view, has_path}
use Rattle.protobuf_parse_name_rules.specs.Options.{Path, path_of}
use Rattle.protobuf_parse_name_rules.proofs.Paths.{path_next, paths_more}
use Rattle.protobuf_parse_name_rules.proofs.Sets.{or_none, or_turn}
use Rattle.protobuf_parse_name_rules.proofs.again.add_fronts.Goals as goal

pub fields-init : goal.fields-init
fields-init c =
    let old = has_path c.args.paths.now in
    record {
      front = c.new-front.ensures.items;
      paths = λ p.
          c.in_ok-add_path.ensures p
          ∙ ap (λ (q : Path). bytes_eq q p || old p) c.new-front.ensures.items
          ∙ or_turn (bytes_eq [] p) (old p)
          ∙ ap (λ b. old p || b) (sym (or_none (bytes_eq [] p)));
    }

pub fields-preserved : goal.fields-preserved
fields-preserved c =
    let fs = c.args.fields.now in
    let i = c.fields.field-index in
    let f = c.field-item.result in
    let n = nat_abs (field_view f.now).number in
    let before = path_of (fields_view (take i fs)) in
    let after = path_of (fields_view (take (i + 1) fs)) in
    let more = path_next fs i f c.fields-test.true c.field-item.is in
    let front : c.push.new.self.items ≡ after =
    c.in_ok-push.ensures.items
    ∙ ap (λ m. c.fields.front.items ++ m ∷ []) c.number_of.ensures
    ∙ ap (λ z. z ++ n ∷ []) c.fields.invariant.front ∙ sym more in
    record {
      front = front;
      paths = λ p.
          paths_more p before n after c.push.new.self.items _ _ _ (c.in_ok-add_path-2.ensures p)
          front more (c.fields.invariant.paths p);
    }
