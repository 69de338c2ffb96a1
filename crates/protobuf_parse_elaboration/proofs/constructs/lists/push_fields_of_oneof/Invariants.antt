use Rattle.std.proofs.Common.{◌≡◌, ◌++◌, map, take, flat_map}
use Rattle.protobuf_parse_syntax.specs.Trees.{oneof_statement_syntax}
use Rattle.protobuf_parse_model.specs.Statements.{oneof_fields}
use Rattle.protobuf_parse_model.specs.SeenFiles.{environment_in}
use Rattle.protobuf_parse_model.specs.Descriptors.{field_view, message_view}
use Rattle.protobuf_parse_model.specs.Faults.{found}
use Rattle.protobuf_parse_elaboration.specs.Parts.{field_owner_view}
use Rattle.protobuf_parse_elaboration.specs.Fields.{field_statement_faults, field_statement_of}
use Rattle.protobuf_parse_elaboration.specs.Messages.{messages_behind}
use Rattle.protobuf_parse_elaboration.proofs.constructs.lists.push_fields_of_oneof.Given as goal

abbrev pub invariant-loop-statement : goal.invariant-loop-statement
invariant-loop-statement g l =
    let env = environment_in (g.C.CustomOptions.customs l.at.custom.now) l.at.context in
    let body = take l.statement-index l.oneof.body.items in
    let seen = flat_map oneof_fields (map oneof_statement_syntax body) in
    record {
      told : found l.faults ≡ found l.initial.faults ++ flat_map (field_statement_faults env) seen;
      all : map field_view l.fields.items ≡ map field_view l.initial.fields.items
          ++ map (field_statement_of env (field_owner_view l.owner)) seen;
      all_behind : map message_view l.messages.items ≡ map message_view l.initial.messages.items
          ++ flat_map (messages_behind env) seen;
    }
