use Rattle.std.proofs.Common.{◌≡◌, flat_map, map, take}
use Rattle.protobuf_parse_syntax.specs.Trees.{file_syntax, statement_syntax}
use Rattle.protobuf_parse_model.specs.DeclaredAt.{statement_at}
use Rattle.protobuf_parse_model.specs.DeclaredAtViews.{declared_at_view}
use Rattle.protobuf_parse_model.specs.Declarations.{file_scope}
use Rattle.protobuf_parse_model.specs.SeenFiles.{name_texts}
use Rattle.protobuf_parse_model.proofs.declared_at.declared_in_order.Given as goal

abbrev pub invariant-loop-statement : goal.invariant-loop-statement
invariant-loop-statement l =
    let scope = file_scope (file_syntax l.tree) in
    record {
      within : name_texts l.scope.items ≡ scope;
      adds : map declared_at_view l.list.items
          ≡ flat_map (statement_at scope)
          (map statement_syntax (take l.statement-index l.tree.statements.items));
    }
