use Rattle.protobuf_parse_run.specs.Run.{MayAnswer}
use Rattle.protobuf_parse_check.proofs.Answering.{accepted-are-quiet, quiet-answers-are-runs}
use Rattle.protobuf_parse_check.proofs.laws.quiet_answers_are_of_runs.Goals as goal

pub returns : goal.returns
returns g c =
    let legal = MayAnswer (g.R.ProtoPathResolver.may_answer c.args.resolver.now)
    (g.I.InputReader.may_read c.args.reader.now) in
    record {
      answers = quiet-answers-are-runs legal;
      quiet = accepted-are-quiet legal;
    }
