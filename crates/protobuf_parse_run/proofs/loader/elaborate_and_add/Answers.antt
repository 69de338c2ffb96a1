use Rattle.std.proofs.Common.{◌≡◌, ◌∙◌, refl, sym, inl, inr, ap, subst, List, Some, Ok, length, map}
use Rattle.std.proofs.lemmas.List.{length-map}
use Rattle.std.proofs.lemmas.Result.{err_from_is_err_and}
use Rattle.protobuf_parse_syntax.specs.Trees.{file_syntax}
use Rattle.protobuf_parse_model.specs.Descriptors.{FileDescriptor, Text}
use Rattle.protobuf_parse_run.specs.Run.{StandsInElab, origin_given}
use Rattle.protobuf_parse_run.specs.Loading.{IndexBegins, ElaboratesTo, IsToldOver, Named}
use Rattle.protobuf_parse_run.specs.Loading.{named_trees}
use Rattle.protobuf_parse_run.specs.Loading.{descriptor_in, descriptors_next, trees_of, with_next}
use Rattle.protobuf_parse_run.specs.declared.loader.LoadedFile.{LoadedFile}
use Rattle.protobuf_parse_run.proofs.Catching.{plains-push}
use Rattle.protobuf_parse_run.proofs.Numbers.{named-length}
use Rattle.protobuf_parse_run.proofs.loader.elaborate_and_add.Goals as goal

pub returns-clause-elaborates : goal.returns-clause-elaborates
returns-clause-elaborates c told none =
    let loaded = c.args.loader.now.loaded.entries in
    let t = file_syntax c.args.tree in
    let files = trees_of (named_trees loaded) in
    let number : length files ≡ c.len.result = length-map (named_trees loaded) (λ (f : Named). f.1)
    ∙ (named-length loaded ∙ sym c.len.ensures.len) in
    let tells = c.in_ok-add.ensures files number told in
    let sights = c.in_ok-sights.sights in
    let descriptor = c.in_ok-descriptor.descriptor in
    let is = subst
    (λ (z : Text). ElaboratesTo loaded
    (with_next loaded t) sights.reach.items sights.sight.items z t (Ok descriptor))
    c.deref.ensures
    (c.in_ok-descriptor.ensures.ok (with_next loaded t) tells) in
    let same : c.descriptor_of.new.loader.loaded.entries
    ≡ loaded = ap (λ m. m.entries) c.in_ok-descriptor.ensures.loaded in
    let added = (rw same at c.in_ok-placed.ensures.added) in
    let file : LoadedFile = record {
      tree = c.of-kept.result;
      height = c.args.height;
      reach = sights.reach;
      handed_on = sights.handed_on;
      read = c.args.read;
      descriptor = descriptor;
    } in
    record {
      key = c.args.path;
      file = file;
      sight = sights.sight.items;
      entries = added.0;
      named = refl;
      tree_is = ap file_syntax c.of-kept.ensures;
      height_is = refl;
      read_is = refl;
      reaches = c.in_ok-sights.ensures.reach;
      sees = c.in_ok-sights.ensures.sight;
      hands_on = c.in_ok-sights.ensures.handed_on;
      faultless = is.faultless;
      descriptor = is.descriptor;
      alike = is.alike;
      tells = rw c.in_ok-descriptor.ensures.names tells;
      begins =
          subst (λ (ps : List FileDescriptor). IndexBegins c.descriptor_of.new.loader.tables.spots
          ps)
          (plains-push loaded (c.args.path, file) ∙ ap (map descriptor_in) (sym added.0))
          (c.in_ok-descriptor.ensures.begins (with_next loaded t) tells);
      height_placed = c.in_ok-placed.ensures.height;
      number_placed = added.1;
    }

pub returns-in_err-descriptor-clause-elaborates : goal.returns-in_err-descriptor-clause-elaborates
returns-in_err-descriptor-clause-elaborates c told =
    let loaded = c.args.loader.now.loaded.entries in
    let t = file_syntax c.args.tree in
    let files = trees_of (named_trees loaded) in
    let number : length files ≡ c.len.result = length-map (named_trees loaded) (λ (f : Named). f.1)
    ∙ (named-length loaded ∙ sym c.len.ensures.len) in
    let tells = c.in_ok-add.ensures files number told in
    let sights = c.in_ok-sights.sights in
    let err = c.in_err-descriptor.ensures.err (with_next loaded t) tells in
    let p = err_from_is_err_and c.from_residual-in_err-descriptor.result
    c.from_residual-in_err-descriptor.ensures.1 in
    rw (p.1, p.2) (λ e found named. elim (err e found (named ∙ sym c.deref.ensures)) [
      | inl w ↦
          let stands = subst
          (λ (z : Text). StandsInElab (origin_given z (Some e.outcome))
          (IsToldOver loaded (with_next loaded t)
          (descriptors_next loaded sights.sight.items z t) sights.reach.items sights.sight.items t)
          c.in_err-descriptor.field-0.0) c.deref.ensures w in
          inl (
            sights.reach.items,
            sights.sight.items,
            c.in_ok-sights.ensures.reach,
            c.in_ok-sights.ensures.sight,
            stands,
          )
      | inr w ↦ inr w
    ])
