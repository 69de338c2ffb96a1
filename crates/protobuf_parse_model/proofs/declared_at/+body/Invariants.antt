use Rattle.std.proofs.Common.{◌≡◌, ◌++◌, flat_map, map, take}
use Rattle.protobuf_parse_base.specs.DeclaredNames.{name_bytes}
use Rattle.protobuf_parse_syntax.specs.InnerViews.{message_statement_syntax}
use Rattle.protobuf_parse_model.specs.DeclaredAt.{body_at}
use Rattle.protobuf_parse_model.specs.DeclaredAtViews.{declared_at_view}
use Rattle.protobuf_parse_model.specs.Declarations.{inside}
use Rattle.protobuf_parse_model.specs.SeenFiles.{name_texts}
use Rattle.protobuf_parse_model.proofs.declared_at.+body.Given as goal

abbrev pub invariant-add_message-loop-statement : goal.invariant-add_message-loop-statement
invariant-add_message-loop-statement l =
    let scope = inside (name_texts l.fn.scope.items) (name_bytes l.message.name) in
    record {
      within : name_texts l.scope.items ≡ scope;
      adds : map declared_at_view l.list.items ≡ map declared_at_view l.initial.list.items
          ++ flat_map (body_at scope)
          (map message_statement_syntax (take l.statement-index l.message.body.items));
    }
