use Rattle.std.proofs.Common.{◌≡◌, map, take, flat_map, string_bytes}
use Rattle.protobuf_parse_syntax.specs.Trees.{enum_statement_syntax}
use Rattle.protobuf_parse_model.specs.Descriptors.{enum_range_view}
use Rattle.protobuf_parse_elaboration.specs.Enums.{enum_reserves, inclusive, names_reserved}
use Rattle.protobuf_parse_elaboration.specs.Enums.{ranges_reserved}
use Rattle.protobuf_parse_elaboration.proofs.constructs.enumeration.reserved.Given as goal

abbrev pub invariant-loop-statement : goal.invariant-loop-statement
invariant-loop-statement l =
    let seen = flat_map enum_reserves (map enum_statement_syntax (take l.statement-index l.body)) in
    record {
      all_ranges : map enum_range_view l.ranges.items
          ≡ map inclusive (flat_map ranges_reserved seen);
      all_names : map string_bytes l.names.items ≡ flat_map names_reserved seen;
    }
