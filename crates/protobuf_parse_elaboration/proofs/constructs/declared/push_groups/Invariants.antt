use Rattle.std.proofs.Common.{◌≡◌, ◌++◌, map, take, flat_map}
use Rattle.protobuf_parse_syntax.specs.Trees.{field_statement_syntax}
use Rattle.protobuf_parse_model.specs.Duplicates.{NamedAt}
use Rattle.protobuf_parse_model.specs.Statements.{groups}
use Rattle.protobuf_parse_elaboration.specs.Messages.{behind_named}
use Rattle.protobuf_parse_elaboration.proofs.constructs.declared.push_groups.Given as goal

abbrev pub invariant-loop-field : goal.invariant-loop-field
invariant-loop-field l =
    l.places.items ≡ l.initial.places.items ++ map (λ (d : NamedAt). d.place)
    (flat_map behind_named
    (flat_map groups (map field_statement_syntax (take l.field-index l.fields))))
