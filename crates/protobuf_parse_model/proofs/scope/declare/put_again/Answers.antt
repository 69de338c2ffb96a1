use Rattle.std.proofs.Common.{◌≡◌, ◌∙◌, ◌++◌, ◌∷◌, [], ℕ, ap, bytes_eq, if◌then◌else◌}
use Rattle.std.proofs.Common.{string_bytes, subst, sym, true}
use Rattle.std.proofs.lemmas.Result.{on_ok_weaker}
use Rattle.std.specs.BTreeMap.{BTreeMap}
use Rattle.std.specs.Global.{Vec}
use Rattle.protobuf_parse_model.specs.ByHash.{declared_by_hash}
use Rattle.protobuf_parse_model.specs.declared.scope.seen.OneHash.{OneHash}
use Rattle.protobuf_parse_model.specs.Descriptors.{Text}
use Rattle.protobuf_parse_model.specs.FileOrder.{FilesAscend}
use Rattle.protobuf_parse_model.specs.SeenFiles.{declared_as}
use Rattle.protobuf_parse_model.specs.TableParts.{ListsOne}
use Rattle.protobuf_parse_model.proofs.ByHash.{ordered_again}
use Rattle.protobuf_parse_model.proofs.Tables.{adds_one}
use Rattle.protobuf_parse_model.proofs.scope.declare.put_again.Goals as goal

pub invariant_of-table : goal.invariant_of-table
invariant_of-table c = record {
  ordered = λ e. c.args.table.now.ordered (c.stays_in_order-table.ensures.was e);
}

pub invariant_of-table-2 : goal.invariant_of-table-2
invariant_of-table-2 c =
    let full = string_bytes c.args.name in
    let d = c.args.declaration in
    let stays = subst (λ (s : Text). c.stays_in_order-table.result ≡ true → (text : Text)
    → FilesAscend (declared_as c.args.table.now text
    ++ (if bytes_eq s text then d ∷ [] else []))) c.deref.ensures
    c.stays_in_order-table.ensures.stays in
    record {
      ordered = λ e. ordered_again c.list_repeated.new.table c.add_alike.new.maps.items full d
          c.add_alike.result c.add_alike.ensures.ok c.add_alike.ensures.err
          (λ text. subst (λ (v : Vec (BTreeMap ℕ OneHash)).
          FilesAscend (declared_by_hash v.items text
          ++ (if bytes_eq full text then d ∷ [] else [])))
          (sym c.in_ok-list_repeated.ensures.same)
          (stays (sym c.in_ok-list_repeated.ensures.order ∙ e) text)) e;
    }

pub returns : goal.returns
returns c =
    let old = c.args.table.now in
    let full = string_bytes c.args.name in
    let d = c.args.declaration in
    let repeated = c.list_repeated.new.table.repeated in
    let relists = c.in_ok-list_repeated.ensures.lists in
    let listed_by : ListsOne old repeated c.deref-2.result.now d.file =
    record { kept = relists.kept; earlier = relists.earlier; again = relists.again } in
    let lists = subst (λ (s : Text). ListsOne old repeated s d.file) c.deref-2.ensures listed_by in
    on_ok_weaker c.add_alike.result
    (λ adds. adds_one old _ full d
    (λ text. adds text
    ∙ ap (λ (v : Vec (BTreeMap ℕ OneHash)). declared_by_hash v.items text
    ++ (if bytes_eq full text then d ∷ [] else []))
    c.in_ok-list_repeated.ensures.same)
    lists) c.add_alike.ensures.ok
