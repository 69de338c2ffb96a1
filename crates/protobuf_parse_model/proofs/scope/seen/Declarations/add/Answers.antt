use Rattle.std.proofs.Common.{◌∙◌, ◌∷◌, [], List, ap, map, subst, sym}
use Rattle.std.proofs.lemmas.Iterator.Adapters.{YieldsList-from_vec}
use Rattle.std.proofs.lemmas.Iterator.Consumers.{YieldsList-end}
use Rattle.std.proofs.lemmas.List.{map-append, map-id}
use Rattle.protobuf_parse_syntax.specs.Trees.{file_syntax}
use Rattle.protobuf_parse_model.specs.DeclaredAt.{DeclaredAt}
use Rattle.protobuf_parse_model.specs.DeclaredAtViews.{declared_at_view}
use Rattle.protobuf_parse_model.proofs.Tables.{Adds, adds_next, tells_more}
use Rattle.protobuf_parse_model.proofs.scope.seen.Declarations.add.Goals as goal

pub loop-declared-preserved : goal.loop-declared-preserved
loop-declared-preserved c =
    let so_far = c.loop-declared.yielded in
    subst (λ (ds : List DeclaredAt). Adds c.args.self.now c.put.new.table c.args.file ds)
    (sym (map-append declared_at_view so_far (c.in-Some.declared ∷ [])))
    (adds_next c.args.self.now c.loop-declared.self c.put.new.table c.args.file
    (map declared_at_view so_far) (declared_at_view c.in-Some.declared) c.loop-declared.invariant
    c.in_ok-put.ensures)

pub returns : goal.returns
returns c =
    let end = YieldsList-end
    (YieldsList-from_vec {s = c.into_iter-declared-iterator.result}
    c.in_ok-declared-items.declared-items.items (cc) (cc))
    c.loop-declared.yielded c.loop-declared.declared-iterator c.loop-declared.yielded_by _
    c.next.new.self c.in-None.is c.next.ensures.steps in
    let all = ap (map declared_at_view)
    (sym (map-id c.loop-declared.yielded) ∙ end.0) ∙ c.in_ok-declared-items.ensures in
    λ files at tells. tells_more c.args.self.now c.loop-declared.self files
    (file_syntax c.args.tree.now) c.args.file
    (subst (λ (ds : List DeclaredAt). Adds c.args.self.now c.loop-declared.self c.args.file ds) all
    c.loop-declared.invariant) at tells
