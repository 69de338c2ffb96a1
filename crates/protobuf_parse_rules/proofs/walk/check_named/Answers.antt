use Rattle.std.proofs.Common.{map}
use Rattle.std.proofs.lemmas.Result.{on_ok_weaker}
use Rattle.protobuf_parse_rules.specs.BodyViews.{body_view}
use Rattle.protobuf_parse_rules.specs.KnownNames.{named_view}
use Rattle.protobuf_parse_rules.specs.declared.runtimes.Declared.{Declared}
use Rattle.protobuf_parse_rules.proofs.Declaring.{declared_told}
use Rattle.protobuf_parse_rules.proofs.walk.check_named.Goals as goal

pub returns : goal.returns
returns c =
    let d : Declared = record { first = c.in_ok-first.first; files = c.in_ok-files.files } in
    on_ok_weaker c.check_runtimes.result
    (λ runtimes. declared_told _ _ _ (map body_view c.args.bodies.now)
    (map body_view c.args.bodies.now) (map named_view c.args.names.now) d
    c.in_ok-first.ensures.0 c.in_ok-files.ensures c.in_ok-first.ensures.1 runtimes)
    c.check_runtimes.ensures
