use Rattle.std.proofs.Common.{◌≡◌, ◌++◌, map, take, flat_map}
use Rattle.protobuf_parse_syntax.specs.Trees.{oneof_statement_syntax}
use Rattle.protobuf_parse_model.specs.Duplicates.{NamedAt}
use Rattle.protobuf_parse_model.specs.Statements.{oneof_fields}
use Rattle.protobuf_parse_elaboration.specs.Messages.{behind_named}
use Rattle.protobuf_parse_elaboration.proofs.constructs.declared.push_behind_fields_in.Given as goal

abbrev pub invariant-loop-statement : goal.invariant-loop-statement
invariant-loop-statement l =
    l.places.items ≡ l.initial.places.items ++ map (λ (d : NamedAt). d.place)
    (flat_map behind_named
    (flat_map oneof_fields (map oneof_statement_syntax (take l.statement-index l.body))))
