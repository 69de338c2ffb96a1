use Rattle.std.proofs.Common.{◌≡◌, ◌++◌, [], flat_map, take}
use Rattle.protobuf_parse_model.specs.BuiltinOptions.{options_seen}
use Rattle.protobuf_parse_model.specs.Faults.{found}
use Rattle.protobuf_parse_options.specs.CustomFaults.{custom_statement_faults}
use Rattle.protobuf_parse_options.specs.Given.{bytes_of_option, option_scope_view}
use Rattle.protobuf_parse_options.proofs.statements.push_options.Given as goal

abbrev pub invariant-options : goal.invariant-options
invariant-options l =
    let s = option_scope_view l.at in
    let os = options_seen (take l.option-index l.options) in
    record {
      told : found l.faults ≡ found l.fn.faults ++ custom_statement_faults s l.construct os;
      all : custom_statement_faults s l.construct os ≡ []
          → l.out.items ≡ l.fn.out.items ++ flat_map (bytes_of_option s l.construct) os;
    }
