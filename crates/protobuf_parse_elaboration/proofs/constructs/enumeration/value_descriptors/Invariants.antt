use Rattle.std.proofs.Common.{◌≡◌, ◌++◌, map, take, flat_map}
use Rattle.protobuf_parse_syntax.specs.Trees.{enum_statement_syntax}
use Rattle.protobuf_parse_model.specs.SeenFiles.{environment_in}
use Rattle.protobuf_parse_model.specs.Descriptors.{enum_value_view}
use Rattle.protobuf_parse_model.specs.Faults.{found}
use Rattle.protobuf_parse_elaboration.specs.Enums.{enum_values, value_faults, value_of}
use Rattle.protobuf_parse_elaboration.proofs.constructs.enumeration.value_descriptors.Given as goal

abbrev pub invariant-loop-statement : goal.invariant-loop-statement
invariant-loop-statement g l =
    let env = environment_in (g.C.CustomOptions.customs l.at.custom.now) l.at.context in
    let seen = flat_map enum_values (map enum_statement_syntax (take l.statement-index l.body)) in
    record {
      told : found l.faults ≡ found l.initial.faults ++ flat_map (value_faults env) seen;
      all : map enum_value_view l.descriptors.items ≡ map (value_of env) seen;
    }
