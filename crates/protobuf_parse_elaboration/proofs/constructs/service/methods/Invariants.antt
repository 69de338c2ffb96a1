use Rattle.std.proofs.Common.{◌≡◌, map, take, flat_map}
use Rattle.protobuf_parse_syntax.specs.Trees.{service_statement_syntax}
use Rattle.protobuf_parse_elaboration.specs.Parts.{methods_seen}
use Rattle.protobuf_parse_elaboration.specs.Services.{methods_in}
use Rattle.protobuf_parse_elaboration.proofs.constructs.service.methods.Given as goal

abbrev pub invariant-loop-statement : goal.invariant-loop-statement
invariant-loop-statement l = methods_seen l.methods.items
    ≡ flat_map methods_in (map service_statement_syntax (take l.statement-index l.body))
