use Rattle.std.proofs.Common.{ap, ◌∙◌}
use Rattle.std.specs.Prelude.{string_bytes}
use Rattle.protobuf_parse_load.specs.declared.step.LoadStep.TheVariants as step
use Rattle.protobuf_parse_load.specs.Loads.{why_view}
use Rattle.protobuf_parse_load.specs.Requests.{asker_in}
use Rattle.protobuf_parse_load.specs.Steps.{told}
use Rattle.protobuf_parse_load.proofs.loader.tell.Goals as goal

pub returns-clause-step : goal.returns-clause-step
returns-clause-step c = (
  step.Told c.in_ok-asker.asker c.in_ok-path.path c.args.why,
  c.in_ok-push.ensures.ok,
  ap (λ z. told z (string_bytes c.in_ok-path.path) (why_view c.args.why)) c.in_ok-asker.ensures
      ∙ ap (λ z. told (asker_in c.args.request.now) z (why_view c.args.why))
      (c.in_ok-path.ensures.ok ∙ c.path_of.ensures),
)
