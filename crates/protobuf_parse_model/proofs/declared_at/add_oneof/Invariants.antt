use Rattle.std.proofs.Common.{◌≡◌, ◌++◌, flat_map, map, take}
use Rattle.protobuf_parse_syntax.specs.Trees.{oneof_statement_syntax}
use Rattle.protobuf_parse_model.specs.DeclaredAt.{oneof_at}
use Rattle.protobuf_parse_model.specs.DeclaredAtViews.{declared_at_view}
use Rattle.protobuf_parse_model.specs.SeenFiles.{name_texts}
use Rattle.protobuf_parse_model.proofs.declared_at.add_oneof.Given as goal

abbrev pub invariant-loop-statement : goal.invariant-loop-statement
invariant-loop-statement l =
    map declared_at_view l.list.items ≡ map declared_at_view l.initial.list.items
    ++ flat_map (oneof_at (name_texts l.scope))
    (map oneof_statement_syntax (take l.statement-index l.oneof.body.items))
