use Rattle.std.proofs.Common.{sym, codes}
use Rattle.protobuf_parse_source_info.specs.Files.{version_walk}
use Rattle.protobuf_parse_source_info.specs.InnerViews.{doing}
use Rattle.protobuf_parse_source_info.proofs.Steps.{takes_nothing}
use Rattle.protobuf_parse_source_info.proofs.Runs.{next_then, next_else}
use Rattle.protobuf_parse_source_info.proofs.walker.Walker.version.Goals as goal

pub returns-then-sees : goal.returns-then-sees
unfolding version_walk
returns-then-sees c =
    next_then (codes "syntax") _ (sym c.if-sees.ensures) c.in_ok-syntax.ensures

pub returns : goal.returns
unfolding version_walk
returns c =
    next_else (codes "syntax") _ (sym c.if-sees.ensures) (takes_nothing (doing c.args.self.now))
