use Rattle.std.proofs.Common.{map}
use Rattle.protobuf_parse_run.specs.Run.{MayAnswer, input_view, rows}
use Rattle.protobuf_parse_run.proofs.Deciding.{have-trees}
use Rattle.protobuf_parse_load.specs.Steps.{load_of, nothing}
use Rattle.protobuf_parse_load.proofs.Inputs.{goes-on, load-ends, load-files, stands-nothing}
use Rattle.protobuf_parse_load.proofs.loading.load_inputs.Goals as goal
use Rattle.protobuf_parse_load.proofs.loading.load_inputs.Goals.{in-Ok, in-Err}

pub returns-clause-trees : goal.returns-clause-trees
returns-clause-trees g c = have-trees (rows c.args.bundled.now) _ c.load_all-outcome.ensures.decided

pub returns-clause-told : goal.returns-clause-told
returns-clause-told g c trees has =
    let table = rows c.args.bundled.now in
    let legal = MayAnswer (g.R.ProtoPathResolver.may_answer c.args.resolver.now)
    (g.I.InputReader.may_read c.args.reader.now) in
    let new = c.load_all-outcome.new.loader in
    let files = load-files table new.reads.items trees in
    let start = stands-nothing legal files c.new-loader.result c.new-loader.ensures.steps
    c.new-loader.ensures.reads c.new-loader.ensures.files c.new-loader.ensures.unread in
    let s = c.load_all-outcome.ensures.goes files nothing
    (goes-on table new.reads.items trees has) start in
    elim c.match-outcome.branch [
      | in-Ok w ↦ let r = (rw w.in-Ok.is at s) in let k = r.2 0 in
          rw w.result-is (load-ends legal files new (load_of trees (map input_view
          c.args.inputs.now))
          r.0 k.0 w.into_steps.result.items r.1 k.1 w.into_steps.ensures)
      | in-Err w ↦ rw w.result-is ((rw w.in-Err.is at s) 0)
    ]
