use Rattle.std.proofs.Common.{◌≡◌, map, take, flat_map, string_bytes}
use Rattle.protobuf_parse_syntax.specs.InnerViews.{message_statement_syntax}
use Rattle.protobuf_parse_model.specs.Descriptors.{reserved_range_view}
use Rattle.protobuf_parse_elaboration.specs.Enums.{names_reserved, ranges_reserved}
use Rattle.protobuf_parse_elaboration.specs.Messages.{exclusive, reserves}
use Rattle.protobuf_parse_elaboration.proofs.constructs.rest.reserved.Given as goal

abbrev pub invariant-loop-statement : goal.invariant-loop-statement
invariant-loop-statement l =
    let seen = flat_map reserves (map message_statement_syntax (take l.statement-index l.body)) in
    record {
      all_ranges : map reserved_range_view l.ranges.items
          ≡ map exclusive (flat_map ranges_reserved seen);
      all_names : map string_bytes l.names.items ≡ flat_map names_reserved seen;
    }
