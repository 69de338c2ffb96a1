use Rattle.std.proofs.Common.{◌≡◌, [], ap, refl, map, take, arith}
use Rattle.std.proofs.lemmas.List.{length-map, take_all}
use Rattle.std.proofs.lemmas.Result.{err_from_is_err_and}
use Rattle.protobuf_parse_run.specs.Walks.{events, import_statements}
use Rattle.protobuf_parse_run.specs.Run.{input_view, rows}
use Rattle.protobuf_parse_run.specs.Loading.{legal_by}
use Rattle.protobuf_parse_run.proofs.Counting.{count-inputs, count-inputs-stop}
use Rattle.protobuf_parse_run.proofs.Inputs.{inputs-step, inputs-stop, good-start, events-none}
use Rattle.protobuf_parse_run.proofs.Deciding.{decided-none}
use Rattle.protobuf_parse_run.proofs.Knowing.{known-none}
use Rattle.protobuf_parse_run.proofs.Leaving.{goes-back, split-at, next-at}
use Rattle.protobuf_parse_run.proofs.loader.load_inputs.Goals as goal

pub loop-input-init : goal.loop-input-init
loop-input-init g c = record {
  chain = c.requires.chain;
  bound = omega (arith, c.requires.meets);
  decided = rw c.requires.reads (decided-none (rows c.args.sources.now.bundled.now));
  inside = λ files go. rw (c.requires.loaded, c.requires.reads, events-none files.trees [])
      (good-start _ files);
  known = known-none _ _ _ c.requires.loaded c.requires.names c.requires.spots;
  count = λ files go. rw (c.requires.meets, events-none files.trees []) refl;
}

pub returns-in_err-load_input : goal.returns-in_err-load_input
returns-in_err-load_input g c = record {
  known = let p = err_from_is_err_and c.from_residual.result c.from_residual.ensures.1 in rw p.1 tt;
  decided = c.in_err-load_input.ensures.decided c.loop-input.invariant.decided;
  goes = λ files go.
      let xs = c.args.inputs.now in
      let back = goes-back files _ _ _ c.load_input.ensures.grows go in
      let good = c.loop-input.invariant.inside files back in
      let is = split-at input_view xs c.loop-input.input-index c.input-item.result
      (omega arith) c.input-item.is in
      let p = err_from_is_err_and c.from_residual.result c.from_residual.ensures.1 in
      rw (p.1, p.2)
      (inputs-stop _ files _ _ _ _ _ c.in_err-load_input.field-0.0 is
      (c.in_err-load_input.ensures.goes files _ go good));
  count = λ files go.
      let xs = c.args.inputs.now in
      let back = goes-back files _ _ _ c.load_input.ensures.grows go in
      let good = c.loop-input.invariant.inside files back in
      let is = split-at input_view xs c.loop-input.input-index c.input-item.result
      (omega arith) c.input-item.is in
      let all = length-map xs input_view in
      let p = err_from_is_err_and c.from_residual.result c.from_residual.ensures.1 in
      rw p.1 (count-inputs-stop
      (legal_by g.R.ProtoPathResolver.may_answer g.I.InputReader.may_read c.args.sources.now)
      files _ _ _ _ _ _ _ _ is (omega (arith, all)) (c.loop-input.invariant.count files back)
      (c.in_err-load_input.ensures.count files _ go good));
}

pub loop-input-preserved : goal.loop-input-preserved
loop-input-preserved g c =
    let xs = c.args.inputs.now in
    record {
      chain = c.in_ok-load_input.ensures.chain;
      bound = omega (arith, c.in_ok-load_input.ensures.bound, c.loop-input.invariant.bound);
      decided = c.in_ok-load_input.ensures.decided c.loop-input.invariant.decided;
      inside = λ files go.
          let back = goes-back files _ _ _ c.load_input.ensures.grows go in
          let good = c.loop-input.invariant.inside files back in
          let next = next-at input_view xs c.loop-input.input-index c.input-item.result
          (omega arith) c.input-item.is in
          inputs-step _ files _ _ _ _ _ next
          (c.in_ok-load_input.ensures.goes files _ go good);
      known = c.in_ok-load_input.ensures.known;
      count = λ files go.
          let back = goes-back files _ _ _ c.load_input.ensures.grows go in
          let good = c.loop-input.invariant.inside files back in
          let next = next-at input_view xs c.loop-input.input-index c.input-item.result
          (omega arith) c.input-item.is in
          count-inputs
          (legal_by g.R.ProtoPathResolver.may_answer g.I.InputReader.may_read
          c.args.sources.now) files _ _ _ _ _ _
          next (c.loop-input.invariant.count files back)
          (c.in_ok-load_input.ensures.count files _ go good);
    }

pub returns : goal.returns
returns g c = record {
  known = c.loop-input.invariant.known;
  decided = c.loop-input.invariant.decided;
  goes = λ files go.
      let whole : take c.loop-input.input-index c.args.inputs.now
      ≡ c.args.inputs.now = take_all _ _ (omega arith) in
      let all = ap (map input_view) whole in
      (rw all at (c.loop-input.invariant.inside files go));
  count = λ files go.
      let whole : take c.loop-input.input-index c.args.inputs.now
      ≡ c.args.inputs.now = take_all _ _ (omega arith) in
      let h = c.loop-input.invariant.count files go in
      let e = ap (λ z. import_statements files.trees (events files.trees (map input_view z)))
      whole in
      omega (arith, h, e, length-map c.args.inputs.now input_view);
}
