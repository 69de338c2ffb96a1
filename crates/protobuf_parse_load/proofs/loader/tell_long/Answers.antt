use Rattle.std.proofs.Common.{List, ℕ, subst}
use Rattle.std.specs.Prelude.{OnOk}
use Rattle.protobuf_parse_load.specs.Frames.{AddsStep}
use Rattle.protobuf_parse_load.specs.Requests.{asker_in, path_in}
use Rattle.protobuf_parse_load.specs.Steps.{is_too_long, told}
use Rattle.protobuf_parse_load.proofs.loader.tell_long.Goals as goal

pub returns-clause-step : goal.returns-clause-step
returns-clause-step c =
    subst (λ (z : List ℕ). OnOk c.tell.result (AddsStep c.args.steps.now.list c.tell.new.steps.list
    (told (asker_in c.args.request.now) (path_in c.args.request.now) (is_too_long z))))
    c.in_ok-input.ensures.ok c.tell.ensures.step
