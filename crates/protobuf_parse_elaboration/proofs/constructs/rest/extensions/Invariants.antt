use Rattle.std.proofs.Common.{◌≡◌, map, take, flat_map}
use Rattle.protobuf_parse_syntax.specs.InnerViews.{message_statement_syntax}
use Rattle.protobuf_parse_model.specs.Descriptors.{extension_range_view}
use Rattle.protobuf_parse_elaboration.specs.Messages.{exclusive, extension_ranges}
use Rattle.protobuf_parse_elaboration.proofs.constructs.rest.extensions.Given as goal

abbrev pub invariant-loop-statement : goal.invariant-loop-statement
invariant-loop-statement l =
    map extension_range_view l.ranges.items ≡ map exclusive (flat_map extension_ranges
    (map message_statement_syntax (take l.statement-index l.body)))
