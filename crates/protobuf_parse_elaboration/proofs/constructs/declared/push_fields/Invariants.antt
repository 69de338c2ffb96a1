use Rattle.std.proofs.Common.{◌≡◌, ◌++◌, map, take}
use Rattle.protobuf_parse_syntax.specs.Trees.{field_statement_syntax}
use Rattle.protobuf_parse_model.specs.Duplicates.{NamedAt}
use Rattle.protobuf_parse_elaboration.specs.Fields.{field_named}
use Rattle.protobuf_parse_elaboration.proofs.constructs.declared.push_fields.Given as goal

abbrev pub invariant-loop-field : goal.invariant-loop-field
invariant-loop-field l =
    l.places.items ≡ l.initial.places.items ++ map (λ (d : NamedAt). d.place)
    (map field_named (map field_statement_syntax (take l.field-index l.fields)))
