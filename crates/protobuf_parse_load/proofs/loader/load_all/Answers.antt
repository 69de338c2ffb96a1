use Rattle.std.proofs.Common.{[], map, refl, sym, ◌∙◌, append-nil}
use Rattle.std.proofs.lemmas.Result.{err_from_is_err_and}
use Rattle.protobuf_parse_run.specs.Run.{input_view, rows}
use Rattle.protobuf_parse_run.specs.Walks.{Trees}
use Rattle.protobuf_parse_load.specs.Frames.{raised}
use Rattle.protobuf_parse_load.specs.Requests.{legal_by}
use Rattle.protobuf_parse_load.specs.Steps.{At, loads}
use Rattle.protobuf_parse_load.proofs.Inputs.{inputs-broken, inputs-done, inputs-next}
use Rattle.protobuf_parse_load.proofs.Looping.{goes-back, grows-trans, loads-broken}
use Rattle.protobuf_parse_load.proofs.loader.load_all.Goals as goal

pub loop-number-init : goal.loop-number-init
loop-number-init g c = record {
  chain = c.requires.chain;
  grows = ([], sym (append-nil _));
  decided = c.requires.decided;
  remembers = c.requires.remembers;
  inside = λ files a go stands. (a, stands, λ k. (k, refl));
}

pub returns-in_err-load_input : goal.returns-in_err-load_input
returns-in_err-load_input g c =
    let legal = legal_by g.R.ProtoPathResolver.may_answer g.I.InputReader.may_read
    c.args.sources.now in
    let xs = c.args.inputs.now in
    let n = c.loop-number.number in
    let p = err_from_is_err_and c.from_residual.result c.from_residual.ensures.1 in
    let m = c.in_err-load_input.ensures in
    let walk : Trees → At → At = λ trees. loads trees 0 (map input_view xs) in
    loads-broken _ _ c.args.sources.now walk c.args.loader.now c.load_input.new.loader
    c.from_residual.result p.0 p.1 (grows-trans _ _ _ c.loop-number.invariant.grows m.grows)
    m.decided
    (λ files a go stands k.
    let w = c.loop-number.invariant.inside files a
    (goes-back files (rows c.args.sources.now.bundled.now) c.loop-number.loader.reads.items
    c.load_input.new.loader.reads.items m.grows go) stands in
    let x = w.2 k in
    inputs-broken legal files.trees xs n c.index-inputs-number.result (walk files.trees (raised k
    a))
    (raised x.0 w.0) c.load_input.new.loader.reads.items c.loop-number-test.true
    c.index-inputs-number.is x.1 (m.goes files w.0 go w.1 x.0))

pub loop-number-preserved : goal.loop-number-preserved
loop-number-preserved g c =
    let xs = c.args.inputs.now in
    let n = c.loop-number.number in
    let m = c.in_ok-load_input.ensures in
    record {
      chain = m.chain;
      grows = grows-trans _ _ _ c.loop-number.invariant.grows m.grows;
      decided = m.decided;
      remembers = m.remembers;
      inside = λ files a go stands.
          let w = c.loop-number.invariant.inside files a
          (goes-back files (rows c.args.sources.now.bundled.now) c.loop-number.loader.reads.items
          c.load_input.new.loader.reads.items m.grows go) stands in
          let s = m.goes files w.0 go w.1 in (
            s.0,
            s.1,
            λ k. let x = w.2 k in let y = s.2 x.0 in (
              y.0,
              x.1 ∙ inputs-next files.trees xs n c.index-inputs-number.result (raised x.0 w.0)
                  (raised y.0 s.0) c.loop-number-test.true c.index-inputs-number.is y.1,
            ),
          );
    }

pub returns : goal.returns
returns g c =
    let xs = c.args.inputs.now in
    let n = c.loop-number.number in
    record {
      grows = c.loop-number.invariant.grows;
      decided = c.loop-number.invariant.decided;
      chain = c.loop-number.invariant.chain;
      remembers = c.loop-number.invariant.remembers;
      goes = λ files a go stands.
          let w = c.loop-number.invariant.inside files a go stands in (
            w.0,
            w.1,
            λ k. let x = w.2 k in (
              x.0,
              x.1 ∙ inputs-done files.trees xs n (raised x.0 w.0) c.loop-number-test.false,
            ),
          );
    }
