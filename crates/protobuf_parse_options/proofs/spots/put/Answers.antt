use Rattle.std.proofs.Common.{◌∙◌, ap, List, ℕ, Option}
use Rattle.std.proofs.Math.Path.{fun_ext}
use Rattle.std.proofs.lemmas.Result.{on_ok_weaker}
use Rattle.std.specs.BTreeMap.{get_by_text}
use Rattle.std.specs.Prelude.{string_bytes}
use Rattle.protobuf_parse_model.specs.Descriptors.{Text}
use Rattle.protobuf_parse_options.specs.Holding.{SpotView}
use Rattle.protobuf_parse_options.proofs.Holding.{put_spot}
use Rattle.protobuf_parse_options.proofs.spots.put.Goals as goal

pub returns : goal.returns
returns g c =
    let parts = g.T.HasParts.part_names in
    let k = c.args.spotted.now in
    let path = c.in_ok-copied.ensures ∙ c.deref.ensures.value in
    let at : List ℕ → (Text → Option ℕ) → SpotView = λ p q. record {
      file = c.args.file;
      path = p;
      index = k.index;
      position = q;
    } in
    on_ok_weaker c.put.result
    (λ h name. put_spot parts c.args.spots.now c.put.new.map k (record {
      file = c.args.file;
      path = c.in_ok-copied.field-0;
      index = k.index;
      positions = c.in_ok-positions.field-0;
    }) c.args.file (string_bytes c.in_ok-clone.field-0) name
    (ap (λ p. at p (get_by_text c.in_ok-positions.field-0)) path
    ∙ ap (at k.path.items) (fun_ext c.in_ok-positions.ensures))
    c.in_ok-clone.ensures.cases (h name))
    c.put.ensures.ok
