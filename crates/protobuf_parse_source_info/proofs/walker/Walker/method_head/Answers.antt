use Rattle.std.proofs.Common.{sym, codes}
use Rattle.protobuf_parse_source_info.specs.Files.{method_head}
use Rattle.protobuf_parse_source_info.proofs.Runs.{next_then, next_else}
use Rattle.protobuf_parse_source_info.proofs.walker.Walker.method_head.Goals as goal

pub returns-then-sees : goal.returns-then-sees
unfolding method_head
returns-then-sees c =
    next_then (codes "stream") _ (sym c.if-sees.ensures) c.in_ok-stream_head.ensures

pub returns : goal.returns
unfolding method_head
returns c = next_else (codes "stream") _ (sym c.if-sees.ensures) c.in_ok-rpc_head.ensures
