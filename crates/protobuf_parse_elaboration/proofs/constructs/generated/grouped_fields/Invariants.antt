use Rattle.std.proofs.Common.{◌≡◌, ◌++◌, map, take, flat_map}
use Rattle.protobuf_parse_syntax.specs.Trees.{field_statement_syntax}
use Rattle.protobuf_parse_model.specs.SeenFiles.{environment_in}
use Rattle.protobuf_parse_model.specs.Descriptors.{field_view}
use Rattle.protobuf_parse_model.specs.Faults.{found}
use Rattle.protobuf_parse_elaboration.specs.Fields.{field_statement_of, grouped_faults, of_message}
use Rattle.protobuf_parse_elaboration.proofs.constructs.generated.grouped_fields.Given as goal

abbrev pub invariant-loop-statement : goal.invariant-loop-statement
invariant-loop-statement g l =
    let env = environment_in (g.C.CustomOptions.customs l.at.custom.now) l.at.context in
    let seen = map field_statement_syntax (take l.statement-index l.statements) in
    record {
      told : found l.faults ≡ found l.initial.faults ++ flat_map (grouped_faults env) seen;
      all : map field_view l.fields.items ≡ map (field_statement_of env of_message) seen;
    }
